use Rattle.std.proofs.Common.{◌≡◌}
use Rattle.thread_tests.proofs.office.queues.answers_so.Given as goal

abbrev pub invariant-loop-row : goal.invariant-loop-row
invariant-loop-row g l = (l.feeder.queue ≡ l.queue.id) × (l.taker.queue ≡ l.queue.id)
