use Rattle.std.proofs.Common.{◌≡◌}
use Rattle.thread_tests.proofs.driving.workers.stock_of.Given as goal

abbrev pub invariant-loop-job : goal.invariant-loop-job
invariant-loop-job g l = l.feeder.queue ≡ l.queue.id
