use Rattle.std.proofs.Common.{◌≤◌, length}
use Rattle.plan_jobs.proofs.Order.{Filled}
use Rattle.plan_jobs.proofs.gather.first_missing.Given as goal

abbrev pub invariant-loop-place : goal.invariant-loop-place
invariant-loop-place l = (l.place ≤ length l.sorted) × Filled l.sorted l.place
