use Rattle.std.proofs.Common.{◌≤◌, length}
use Rattle.journal_chart.specs.Resting.{AreResting}
use Rattle.journal_chart.proofs.resting.Resting.of.Given as goal

abbrev pub invariant-loop-resting : goal.invariant-loop-resting
invariant-loop-resting l = record {
  resting : AreResting l.resting l.rows;
  within : l.resting.before ≤ length l.rows;
}

abbrev pub decreases-loop-resting : goal.decreases-loop-resting
decreases-loop-resting l = l.resting.before
