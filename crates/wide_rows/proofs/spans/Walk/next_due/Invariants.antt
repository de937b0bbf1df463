use Rattle.std.proofs.Common.{Bool, ◌^◌, ◌<◌, ◌++◌, length}
use Rattle.wide_rows.specs.Passed.{IsPassed, rows_left}
use Rattle.wide_rows.proofs.WalkCounted.{IsWithin}
use Rattle.wide_rows.proofs.spans.Walk.next_due.Given as goal

abbrev pub invariant-loop-quad : goal.invariant-loop-quad
invariant-loop-quad l = record {
  low : l.carry < 2 ^ 32;
  room : l.visits < 2 ^ 31;
  passed : IsPassed l.workers l.demand l.fn.self (l.self-inside.quads ++ rows_left l.self-inside.leaves) l.fn.carry l.carry;
  entered : Bool;
  way : IsWithin l.workers l.demand l.fn.self l.self-inside.quads l.self-inside.leaves l.carry l.fn.visits l.visits entered;
}

abbrev pub decreases-loop-quad : goal.decreases-loop-quad
decreases-loop-quad l = length (rows_left l.self-inside.leaves)
