use Rattle.market_lock.specs.Seen.{IsSamePass}
use Rattle.office_crew.specs.Callers.{who_is}
use Rattle.thread_tests.proofs.office.endless.ask_often.Given as goal

abbrev pub invariant-loop : goal.invariant-loop
invariant-loop g l = IsSamePass (who_is l.fn.caller) (who_is l.caller)
