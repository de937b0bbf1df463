-- How many seats are placed at each arena. These words serve the roster's parts, and no public clause has them.
use Rattle.std.specs.Prelude.{◌≡◌, ℕ, ◌≤◌, Bool, ◌==◌, if◌then◌else◌, List, map, length, Option, is_some, slice_get, All}
use Rattle.std.specs.List.{sum_by, count_by}
use Rattle.market_types.specs.Allotment.{is_just}
use Rattle.recall_hire.specs.declared.crowd.Crowd.{Crowd}
use Rattle.recall_hire.specs.declared.slots.Slot.{Slot}
use Rattle.recall_hire.specs.Slots.{seats_in, in_slot}

abbrev pub one_if : Bool → ℕ
one_if b = if b then 1 else 0

-- the arena of the crowd at an index
abbrev pub arena_at : ℕ → List Crowd → Option ℕ
arena_at index crowds = slice_get (map (λ (c : Crowd). c.arena) crowds) index

-- how many seats are at an arena
abbrev pub size_at : ℕ → List Crowd → ℕ
size_at a crowds = sum_by (λ (c : Crowd). if c.arena == a then c.size else 0) crowds

-- how many seats are at any
abbrev pub total_size : List Crowd → ℕ
total_size crowds = sum_by (λ (c : Crowd). c.size) crowds

-- each arena has one crowd at most, and no crowd is empty
pub record IsTable (crowds : List Crowd) : Type 0 where
  pub single : (a : ℕ) → count_by (λ (c : Crowd). c.arena == a) crowds ≤ 1
  pub filled : All (λ (c : Crowd). 1 ≤ c.size) crowds

-- the crowds and the slots are those of the seats, with room for each seat to be at an arena of its own
pub record IsCounted (seats : List (Option ℕ)) (placed : ℕ) (crowds : List Crowd) (capacity : ℕ) (slots : List Slot) : Type 0 where
  pub placed_is : placed ≡ count_by is_some seats
  pub table : IsTable crowds
  pub sizes : (a : ℕ) → size_at a crowds ≡ count_by (is_just a) seats
  pub total : total_size crowds ≡ placed
  pub room : length seats ≤ capacity
  pub few : length seats ≤ 64
  pub slotted : (i : ℕ) → seats_in i slots ≡ count_by (in_slot i) seats
