use Rattle.std.proofs.Common.{◌≡◌, ◌^◌, ◌<◌, ◌≤◌}
use Rattle.wide_rows.specs.Passed.{IsPassed, rows_of_quads}
use Rattle.wide_rows.proofs.quads.pass.Given as goal

abbrev pub invariant-loop-left : goal.invariant-loop-left
invariant-loop-left l = record {
  within : l.left ≤ l.fn.left;
  low : l.carry < 2 ^ 32;
  passed : IsPassed l.workers l.demand (rows_of_quads l.columns l.fn.left) (rows_of_quads l.columns l.left) l.fn.carry l.carry;
  none : l.visits ≡ l.fn.visits;
}

abbrev pub decreases-loop-left : goal.decreases-loop-left
decreases-loop-left l = l.left
