-- What the market is at a moment. Everything else is computed from this.
use Rattle.std.specs.Prelude.{ℕ, ℤ, List, [], Option, None, replicate}

-- what an arena may use (`max_concurrency` and `reserved_for_masters` of oneTBB's task_arena), and the running totals of
-- what it asked for
pub record Claim : Type 0 where
  pub slots : ℕ
  pub reserved : ℕ
  pub wanted : ℤ
  pub mandatory : ℕ

-- an arena: its number, the stamp of its last Open or Priority, and its level, from 1
pub record Arena : Type 0 where
  pub number : ℕ
  pub stamp : ℕ
  pub level : ℕ
  pub claim : Claim

-- a living limit on parallelism (`max_allowed_parallelism` of oneTBB's global_control)
pub record Control : Type 0 where
  pub number : ℕ
  pub value : ℕ

-- the market: what it was opened with; its arenas, greatest stamp first; its controls, oldest first; for each seat the
-- arena that it is placed at, if any; the last number that an arena, a stamp or a control gets; the next numbers
pub record State : Type 0 where
  pub base : ℕ
  pub hard : ℕ
  pub levels : ℕ
  pub arenas : List Arena
  pub controls : List Control
  pub seats : List (Option ℕ)
  pub last : ℕ
  pub next_arena : ℕ
  pub next_control : ℕ
  pub next_stamp : ℕ

-- the last number where an opening names none
abbrev pub usual_last : ℕ
usual_last = 1048576

-- a market that nothing has happened to, with this last number
abbrev pub opening_to : ℕ → ℕ → ℕ → ℕ → ℕ → State
opening_to base hard seats levels last =
    record {
      base = base;
      hard = hard;
      levels = levels;
      arenas = [];
      controls = [];
      seats = replicate seats None;
      last = last;
      next_arena = 1;
      next_control = 1;
      next_stamp = 1;
    }

-- a market that nothing has happened to, with the usual last number
abbrev pub opening : ℕ → ℕ → ℕ → ℕ → State
opening base hard seats levels = opening_to base hard seats levels usual_last
