use Rattle.std.proofs.Common.{◌≡◌, ℕ, ◌+◌, ◌*◌, ◌<◌, ◌≤◌, get_or, length, None}
use Rattle.std.specs.List.{find}
use Rattle.market_types.specs.State.{Arena}
use Rattle.market_types.specs.Claims.{is_mandated}
use Rattle.market_types.specs.Allotment.{at_level}
use Rattle.allotment.specs.Levels.{number_of}
use Rattle.arena_store.specs.Bits.{bits}
use Rattle.market_core.specs.Visits.{least_picked}
use Rattle.market_core.proofs.market.Market.first_mandated_by_level.Given as goal

-- the levels so far have their picks, and there is none above them
abbrev pub invariant-loop-index : goal.invariant-loop-index
invariant-loop-index l =
    record {
      exact : (k : ℕ) → k < l.index → get_or l.picks k None ≡ number_of (find (λ (a : Arena). is_mandated a.claim) (at_level (k + 1) l.self-inside.arenas));
      above : (k : ℕ) → l.index ≤ k → get_or l.picks k None ≡ None;
      least : least_picked l.self-inside.arenas l.index ≤ l.visits;
      alone : ((level : ℕ) → length (at_level level l.self-inside.arenas) ≤ 12) → l.visits ≡ least_picked l.self-inside.arenas l.index;
      visits : l.visits ≤ l.index * (2 * bits (length l.self-inside.arenas));
      few : l.visits ≤ l.index * 22;
    }
