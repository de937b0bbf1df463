use Rattle.std.proofs.Common.{◌≡◌, ◌+◌, ◌-◌, ◌≤◌, length}
use Rattle.market_types.specs.Step.{counts_of}
use Rattle.recall_hire.specs.Shared.{IsListed}
use Rattle.recall_hire.specs.Staffed.{rows_among, actives, looks}
use Rattle.market_core.specs.Visits.{extra_visits, least_listed}
use Rattle.market_core.specs.Divided.{left_after}
use Rattle.market_core.proofs.Order.{levels_from}
use Rattle.market_core.proofs.market.Market.lists.Given as goal

-- the levels to come are left what those before them did not ask for; the lists so far lack the rows of the levels to come, each arena on them was entered, as was each that is looked at, and no row was
-- entered twice
abbrev pub invariant-loop-level : goal.invariant-loop-level
invariant-loop-level l =
    let coming = levels_from (l.level + 1) (l.self.levels - l.level) l.self.arenas in
    record {
      left : l.left ≡ left_after l.self l.level;
      listed : IsListed (rows_among l.self coming) l.lists (counts_of l.self);
      unmet : actives (rows_among l.self coming) ≤ l.unmet;
      looked : length l.lists.recalls + length l.lists.hires ≤ l.made;
      met_first : least_listed l.self ≤ l.made + looks l.unmet (rows_among l.self coming);
      visits : l.made + length coming ≤ length l.self.arenas + extra_visits l.self;
      few : l.made + length coming ≤ length l.self.arenas + 176;
    }
