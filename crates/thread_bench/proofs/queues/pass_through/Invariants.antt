use Rattle.std.proofs.Common.{◌≡◌}
use Rattle.thread_bench.proofs.queues.pass_through.Given as goal

abbrev pub invariant-loop-job : goal.invariant-loop-job
invariant-loop-job g l = (l.feeder.queue ≡ l.queue.id) × (l.taker.queue ≡ l.queue.id)
