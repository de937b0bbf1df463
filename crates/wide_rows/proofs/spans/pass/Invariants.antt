use Rattle.std.proofs.Common.{◌≡◌, ◌^◌, ◌<◌, ◌≤◌}
use Rattle.wide_rows.specs.Joined.{joined_below}
use Rattle.wide_rows.specs.Shelves.{leaf_at}
use Rattle.wide_rows.specs.Passed.{IsPassed}
use Rattle.wide_rows.proofs.spans.pass.Given as goal

abbrev pub invariant-loop-left : goal.invariant-loop-left
invariant-loop-left l = record {
  within : l.left ≤ l.fn.left;
  low : l.carry < 2 ^ 32;
  passed : IsPassed l.workers l.demand (joined_below (leaf_at l.leaves.items) l.fn.left) (joined_below (leaf_at l.leaves.items) l.left) l.fn.carry l.carry;
  none : l.visits ≡ l.fn.visits;
}

abbrev pub decreases-loop-left : goal.decreases-loop-left
decreases-loop-left l = l.left
