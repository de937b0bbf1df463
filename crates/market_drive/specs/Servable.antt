-- Arenas of a plan that no worker would ever come to (own).
use Rattle.std.specs.Prelude.{◌≡◌, ℕ, ◌-◌, ◌<◌, ◌==◌, Bool, true, List, [], ◌∷◌, ◌++◌, map, Option, Some, None, slice_get}
use Rattle.std.specs.List.{list_any}
use Rattle.market_types.specs.declared.command.Call.{Call}
use Rattle.market_types.specs.declared.command.Cmd.{Cmd}
use Rattle.market_types.specs.State.{State, opening}
use Rattle.market_types.specs.Allotment.{allotment_of}
use Rattle.market_types.specs.History.{state_after}
use Rattle.drive_plan.specs.declared.plan.PlannedArena.{PlannedArena}
use Rattle.plan_jobs.specs.declared.task.PlannedJob.{PlannedJob}
use Rattle.drive_plan.specs.Plans.{Planned}
use Rattle.market_drive.specs.Making.{asks, founding}

-- the commands as calls of seat 0
abbrev pub calls_of_first : List Cmd → List Call
calls_of_first commands = map (λ (cmd : Cmd). record { seat = 0; cmd = cmd }) commands

-- what the arena of this number asks for, where there is one
abbrev pub asks_if : ℕ → Option PlannedArena → List Cmd
asks_if number None = []
asks_if number (Some arena) = asks number arena ∷ []

-- the plan's market where arena `a` alone asks for workers; no allotment depends on how many seats there are: here one
abbrev pub lone_state : Planned → ℕ → State
lone_state p a =
    state_after (opening p.base p.hard 1 p.levels)
    (calls_of_first (founding p ++ asks_if a (slice_get p.arenas (a - 1))))

-- some job is the arena's
abbrev pub has_job : List PlannedJob → ℕ → Bool
has_job jobs a = list_any (λ (job : PlannedJob). job.arena == a) jobs

-- the arena has a job, and is allotted no worker though it alone asks for some
abbrev pub IsUnservable : Planned → ℕ → Type 0
IsUnservable p a = (has_job p.jobs a ≡ true) × (allotment_of (lone_state p a) a ≡ 0)

-- no arena of a lower number is so
pub record IsLeastUnservable (p : Planned) (a : ℕ) : Type 0 where
  pub unservable : IsUnservable p a
  pub least : (b : ℕ) → b < a → IsUnservable p b → ⊥
