use Rattle.std.proofs.Common.{◌≡◌, ◌≤◌, ◌+◌, ◌-◌, ◌*◌, length}
use Rattle.recall_hire.specs.Staffed.{need_among, need_of, rows_among, rows_of, searches}
use Rattle.arena_store.specs.Bits.{bits}
use Rattle.market_core.proofs.market.Market.first_in_need.Given as goal
use Rattle.market_core.specs.Divided.{left_after}
use Rattle.market_core.proofs.Order.{levels_from}

-- the arena that is looked for is at one of the levels to come, these are left what those before them did not ask for, and what was looked at
-- so far is counted
abbrev pub invariant-loop-index : goal.invariant-loop-index
invariant-loop-index l =
    let coming = levels_from (l.index + 1) (l.self.levels - l.index) l.self.arenas in
    let deep = 2 * bits (length l.self.arenas) in
    record {
      left : l.left ≡ left_after l.self l.index;
      needed : need_of l.self ≡ need_among l.self coming;
      counted : searches (rows_of l.self) ≤ l.visits + searches (rows_among l.self coming);
      bounded : l.visits + searches (rows_among l.self coming) * deep ≤ searches (rows_of l.self) * deep;
      once : l.visits + length coming ≤ length l.self.arenas;
    }
