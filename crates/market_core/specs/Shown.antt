-- How a market's fields are seen as its state, and its invariant. No public clause has these words.
use Rattle.std.specs.Prelude.{◌≡◌, Bool, true, false, None}
use Rattle.market_types.specs.State.{State}
use Rattle.market_types.specs.Allotment.{need}
use Rattle.market_core.specs.declared.market.Market.TheInside.{Inside}
use Rattle.market_core.specs.Sound.{IsSound}

-- the market as callers see it
abbrev pub shown : Inside → State
shown m =
    record {
      base = m.opening.base;
      hard = m.opening.hard;
      levels = m.opening.levels;
      arenas = m.arenas;
      controls = m.controls.living;
      seats = m.roster;
      last = m.opening.last;
      next_arena = m.next_arena;
      next_control = m.controls.next;
      next_stamp = m.next_stamp;
    }

-- no arena needs a worker, where that is known
abbrev pub IsUnneeded : Bool → State → Type 0
IsUnneeded false s = Unit {0}
IsUnneeded true s = need s ≡ None

pub record IsSoundInside (m : Inside) : Type 0 where
  pub sound : IsSound (shown m)
  pub unneeded : IsUnneeded m.nobody_needed (shown m)
