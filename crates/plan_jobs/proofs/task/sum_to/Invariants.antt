use Rattle.std.proofs.Common.{◌≡◌}
use Rattle.plan_jobs.specs.Values.{sum_to}
use Rattle.plan_jobs.proofs.task.sum_to.Given as goal

abbrev pub invariant-loop-number : goal.invariant-loop-number
invariant-loop-number l = l.sum ≡ sum_to l.number
