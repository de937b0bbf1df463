use Rattle.plan_jobs.proofs.Order.{Seen}
use Rattle.plan_jobs.proofs.gather.first_doubled.Given as goal

abbrev pub invariant-loop-done : goal.invariant-loop-done
invariant-loop-done l = Seen l.jobs l.sorted l.done-index l.last
