use Rattle.std.proofs.Common.{ℕ, ◌+◌, ◌^◌, ◌<◌, ◌≤◌, length, Option}
use Rattle.market_types.specs.Rows.{requests}
use Rattle.recall_hire.specs.Shared.{CanShare, IsLook}
use Rattle.recall_hire.proofs.walk.Search.first_by_rows.Given as goal

-- a look at the rest is one at all
abbrev pub invariant-loop-row : goal.invariant-loop-row
invariant-loop-row l = record {
  shared : CanShare l.self.workers l.self.demand l.carry;
  part : requests l.rest ≤ l.self.demand;
  few : l.visits + length l.rest < 2 ^ 31;
  goes : (after end : ℕ) (found : Option ℕ) → IsLook l.self.workers l.self.demand l.self.roster.now l.rest l.carry after l.visits end found → IsLook l.self.workers l.self.demand l.self.roster.now l.fn.rows l.fn.carry after l.fn.visits end found;
}

abbrev pub decreases-loop-row : goal.decreases-loop-row
decreases-loop-row l = length l.rest
