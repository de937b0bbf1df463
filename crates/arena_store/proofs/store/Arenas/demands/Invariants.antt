use Rattle.std.proofs.Common.{◌≡◌, ℕ, ◌+◌, ◌*◌, ◌<◌, ◌≤◌, get_or, length}
use Rattle.market_types.specs.Allotment.{total_request, at_level}
use Rattle.arena_store.proofs.store.Arenas.demands.Given as goal

-- the levels so far have their demands, and those to come 0
abbrev pub invariant-loop-index : goal.invariant-loop-index
invariant-loop-index l =
    record {
      size : length l.demands ≡ 8;
      exact : (k : ℕ) → k < l.index → get_or l.demands k 0 ≡ total_request (at_level (k + 1) l.self);
      small : (k : ℕ) → get_or l.demands k 0 ≤ 1024 * 65535;
    }
