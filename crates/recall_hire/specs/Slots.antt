-- How many seats are placed at the arenas of each slot: those whose numbers leave the same remainder.
use Rattle.std.specs.Prelude.{ℕ, ◌%◌, ◌==◌, Bool, false, List, Option, Some, None, slice_index_or}
use Rattle.recall_hire.specs.declared.slots.Slot.{Slot}

-- the seats of the slot at an index
abbrev pub seats_in : ℕ → List Slot → ℕ
seats_in i slots = (slice_index_or slots i (record { seats = 0; hint = 0 })).seats

-- where the crowd of one of the slot's arenas was put last
abbrev pub hint_in : ℕ → List Slot → ℕ
hint_in i slots = (slice_index_or slots i (record { seats = 0; hint = 0 })).hint

-- the seat is placed at an arena of the slot
abbrev pub in_slot : ℕ → Option ℕ → Bool
in_slot i None = false
in_slot i (Some a) = a % 1024 == i
