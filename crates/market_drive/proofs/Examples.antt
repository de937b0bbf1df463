-- Worked examples of plans' markets, and of arenas that no worker comes to.
use Rattle.std.proofs.Common.{◌≡◌, ℕ, List, [], ◌∷◌, pos, refl}
use Rattle.market_types.specs.declared.command.Cmd.TheVariants.{Open, Request, Control}
use Rattle.market_types.specs.Allotment.{allotment_of}
use Rattle.drive_plan.specs.declared.plan.PlannedArena.{PlannedArena}
use Rattle.drive_plan.specs.Plans.{Planned}
use Rattle.market_drive.specs.Making.{commands_of}
use Rattle.market_drive.specs.Servable.{lone_state}

-- a plan of 8 and 64 with three levels, and no jobs
abbrev planned : List PlannedArena → List ℕ → Planned
planned arenas controls = record { base = 8; hard = 64; levels = 3; arenas = arenas; controls = controls; jobs = [] }

-- an arena of 8 slots at the second level, one slot of which is reserved
abbrev arena : ℕ → ℕ → PlannedArena
arena wanted mandatory = record { slots = 8; reserved = 1; level = 2; wanted = wanted; mandatory = mandatory }

-- an arena all of whose slots are reserved
abbrev reserved : PlannedArena
reserved = record { slots = 2; reserved = 2; level = 2; wanted = 5; mandatory = 0 }

made_in_order : commands_of (planned (arena 2 0 ∷ reserved ∷ []) (5 ∷ []))
    ≡ Control 5 ∷ Open 8 1 2 ∷ Open 2 2 2 ∷ Request 1 (pos 2) (pos 0) ∷ Request 2 (pos 5) (pos 0) ∷ []
made_in_order = refl

two_are_wanted : allotment_of (lone_state (planned (reserved ∷ arena 2 0 ∷ []) []) 2) 2 ≡ 2
two_are_wanted = refl

all_slots_are_reserved : allotment_of (lone_state (planned (reserved ∷ arena 2 0 ∷ []) []) 1) 1 ≡ 0
all_slots_are_reserved = refl

others_ask_for_none : allotment_of (lone_state (planned (arena 2 0 ∷ arena 7 0 ∷ []) (2 ∷ [])) 1) 1 ≡ 1
others_ask_for_none = refl

control_of_one : allotment_of (lone_state (planned (arena 2 0 ∷ []) (1 ∷ [])) 1) 1 ≡ 0
control_of_one = refl

enqueued_work_under_a_control_of_one : allotment_of (lone_state (planned (arena 2 1 ∷ []) (1 ∷ [])) 1) 1 ≡ 1
enqueued_work_under_a_control_of_one = refl
