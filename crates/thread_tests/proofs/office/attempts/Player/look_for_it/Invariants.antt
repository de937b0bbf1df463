use Rattle.market_lock.specs.Seen.{IsSamePass}
use Rattle.thread_tests.proofs.office.attempts.Player.look_for_it.Given as goal

abbrev pub invariant-loop : goal.invariant-loop
invariant-loop g l = IsSamePass l.fn.pass l.pass
