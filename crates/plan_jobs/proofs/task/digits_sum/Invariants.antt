use Rattle.std.proofs.Common.{◌≡◌, ◌+◌}
use Rattle.plan_jobs.specs.Values.{digits_sum}
use Rattle.plan_jobs.proofs.task.digits_sum.Given as goal

abbrev pub invariant-loop-rest : goal.invariant-loop-rest
invariant-loop-rest l = l.sum + digits_sum l.rest ≡ digits_sum l.fn.number

abbrev pub decreases-loop-rest : goal.decreases-loop-rest
decreases-loop-rest l = l.rest
