use Rattle.std.proofs.Common.{ℕ, ◌+◌, ◌^◌, ◌<◌, length}
use Rattle.market_types.specs.Counts.{Counts}
use Rattle.recall_hire.specs.Shared.{IsWalk}
use Rattle.recall_hire.proofs.Listings.{IsReady, ListsNothing}
use Rattle.recall_hire.proofs.lists.list.Given as goal

-- a walk over the rest is one over all, and where nothing is listed of all, nothing is of the rest
abbrev pub invariant-loop-quad : goal.invariant-loop-quad
invariant-loop-quad l = record {
  ready : IsReady l.fn.sharing l.roster l.rest l.carry l.unmet;
  few : l.visits + length l.rest < 2 ^ 30;
  goes : (after left more : ℕ) (lists : Counts) → IsWalk l.fn.sharing l.roster l.rest l.carry after l.unmet left l.visits more l.lists lists → IsWalk l.fn.sharing l.roster l.rows.0 0 after l.fn.unmet left l.fn.visits more l.fn.lists lists;
  nothing : ListsNothing l.fn.sharing l.roster 0 l.rows.0 → ListsNothing l.fn.sharing l.roster l.carry l.rest;
}

abbrev pub decreases-loop-quad : goal.decreases-loop-quad
decreases-loop-quad l = length l.rest
