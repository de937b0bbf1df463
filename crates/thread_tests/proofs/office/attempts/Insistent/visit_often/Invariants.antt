use Rattle.market_lock.specs.Seen.{IsSamePass}
use Rattle.thread_tests.proofs.office.attempts.Insistent.visit_often.Given as goal

abbrev pub invariant-loop : goal.invariant-loop
invariant-loop g l = IsSamePass l.fn.pass l.pass
