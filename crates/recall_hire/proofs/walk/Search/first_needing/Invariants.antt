use Rattle.std.proofs.Common.{◌≡◌, ℕ, ◌+◌, ◌*◌, ◌^◌, ◌<◌, ◌≤◌, length, Option}
use Rattle.market_types.specs.Rows.{requests}
use Rattle.market_types.specs.Bits.{bits}
use Rattle.recall_hire.specs.Shared.{CanShare, IsSearch}
use Rattle.recall_hire.proofs.walk.Search.first_needing.Given as goal

-- a search through the rest is one through all
abbrev pub invariant-loop-left : goal.invariant-loop-left
invariant-loop-left l = record {
  shared : CanShare l.self.workers l.self.demand l.carry;
  part : requests l.rest ≤ l.self.demand;
  due : l.left ≡ l.carry + l.self.workers * requests l.rest;
  few : l.visits + length l.rest < 2 ^ 30;
  fewer : length l.rest ≤ length l.fn.rows;
  goes : (end : ℕ) (found : Option ℕ) → IsSearch l.self.workers l.self.demand l.self.roster.now (l.rest, 2 * bits (length l.fn.rows)) l.carry l.visits end found → IsSearch l.self.workers l.self.demand l.self.roster.now (l.fn.rows, 2 * bits (length l.fn.rows)) 0 l.fn.visits end found;
}

abbrev pub decreases-loop-left : goal.decreases-loop-left
decreases-loop-left l = length l.rest
