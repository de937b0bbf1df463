use Rattle.std.proofs.Common.{ℕ, ◌+◌, ◌^◌, ◌<◌, length}
use Rattle.market_types.specs.Counts.{Counts}
use Rattle.recall_hire.specs.Shared.{IsWalk}
use Rattle.recall_hire.proofs.Listings.{IsReady, ListsNothing}
use Rattle.recall_hire.proofs.lists.Listing.list.Given as goal

-- a walk over the rest is one over all, and where nothing is listed of all, nothing is of the rest
abbrev pub invariant-loop-row : goal.invariant-loop-row
invariant-loop-row l = record {
  ready : IsReady l.self.sharing l.self.roster.now l.rest l.carry l.unmet;
  few : l.visits + length l.rest < 2 ^ 31;
  goes : (after left more : ℕ) (lists : Counts) → IsWalk l.self.sharing l.self.roster.now l.rest l.carry after l.unmet left l.visits more l.lists lists → IsWalk l.self.sharing l.self.roster.now l.fn.rows l.fn.carry after l.fn.unmet left l.fn.visits more l.fn.lists lists;
  nothing : ListsNothing l.self.sharing l.self.roster.now l.fn.carry l.fn.rows → ListsNothing l.self.sharing l.self.roster.now l.carry l.rest;
}

abbrev pub decreases-loop-row : goal.decreases-loop-row
decreases-loop-row l = length l.rest
