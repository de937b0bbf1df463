-- The commands that make a plan's market (own).
use Rattle.std.specs.Prelude.{ℕ, pos, List, ◌++◌, map}
use Rattle.std.specs.List.{enumerate_from}
use Rattle.market_types.specs.declared.command.Cmd.{Cmd}
use Rattle.market_types.specs.declared.command.Cmd.TheVariants.{Open, Request, Control}
use Rattle.drive_plan.specs.declared.plan.PlannedArena.{PlannedArena}
use Rattle.drive_plan.specs.Plans.{Planned}

-- the arena is opened
abbrev pub opens : PlannedArena → Cmd
opens arena = Open arena.slots arena.reserved arena.level

-- the arena of this number asks for workers
abbrev pub asks : ℕ → PlannedArena → Cmd
asks number arena = Request number (pos arena.wanted) (pos arena.mandatory)

-- the controls, and then the arenas, which ask for nothing yet
abbrev pub founding : Planned → List Cmd
founding p = map Control p.controls ++ map opens p.arenas

-- what the arenas ask for, the first of which is arena 1
abbrev pub requests : Planned → List Cmd
requests p = map (λ (e : ℕ × PlannedArena). asks e.0 e.1) (enumerate_from 1 p.arenas)

-- all of them
abbrev pub commands_of : Planned → List Cmd
commands_of p = founding p ++ requests p
