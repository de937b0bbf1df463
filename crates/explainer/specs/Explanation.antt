-- The explanation of a market: its text as a function of the state alone (own).
use Rattle.std.specs.Prelude.{ℕ, ◌+◌, ◌-◌, ◌*◌, ◌&&◌, nat_lt, if◌then◌else◌, List, [], ◌∷◌, ◌++◌, Option, None, Some, sum_by, codes}
use Rattle.std.specs.List.{range_with_len}
use Rattle.market_types.specs.State.{Arena, State}
use Rattle.market_types.specs.Claims.{request_of}
use Rattle.market_types.specs.Allotment.{at_level, levels_of, total_request, demand, limit_of, bound_of, assigned, carry_past, carry_after}
use Rattle.market_types.specs.Step.{limits_of, view_of}
use Rattle.market_core.specs.Allotted.{level_allotment}
use Rattle.explainer.specs.declared.line.CarryStep.{CarryStep}
use Rattle.explainer.specs.declared.line.LevelView.{LevelView}
use Rattle.explainer.specs.Columns.{market_line, level_line, arena_line}

-- how many workers are left after a level: those that may be allotted, less those that the arenas up to it are
abbrev pub left_after : State → ℕ → ℕ
left_after s level = bound_of s - sum_by (level_allotment s) (range_with_len 1 level)

-- what an explanation says of a level
abbrev pub level_view : State → ℕ → LevelView
level_view s level =
    record { level = level; demand = demand s level; assigned = level_allotment s level; left = left_after s level }

-- the step of the carry at an arena, by the carry before it: none where it asks for no worker, or none may be active
abbrev pub step_of : State → ℕ → Arena → Option CarryStep
step_of s carry a =
    if nat_lt 0 (limit_of s) && nat_lt 0 (request_of a.claim)
    then Some (record {
      carry = carry;
      product = request_of a.claim * assigned s a.level + carry;
      rest = carry_past (assigned s) (demand s) carry a;
    })
    else None

-- the lines of arenas in order: one carry goes through all of them
abbrev pub arena_lines : State → ℕ → List Arena → List ℕ
arena_lines s carry [] = []
arena_lines s carry (a ∷ arenas) =
    arena_line (view_of s a) (step_of s carry a)
    ++ (codes "\n" ++ arena_lines s (carry_past (assigned s) (demand s) carry a) arenas)

-- the lines of levels in order, each before those of its arenas: the carry goes on from level to level
abbrev pub level_lines : State → ℕ → List ℕ → List ℕ
level_lines s carry [] = []
level_lines s carry (level ∷ levels) =
    level_line s.levels (level_view s level)
    ++ (codes "\n" ++ (arena_lines s carry (at_level level s.arenas)
    ++ level_lines s (carry_after (assigned s) (demand s) carry (at_level level s.arenas)) levels))

-- the explanation of a market
abbrev pub explanation_text : State → List ℕ
explanation_text s =
    market_line (limits_of s) (total_request s.arenas) (bound_of s) ++ (codes "\n" ++ level_lines s 0 (levels_of s))
