use Rattle.market_lock.specs.Seen.{IsSamePass}
use Rattle.office_crew.specs.Callers.{who_is}
use Rattle.thread_bench.proofs.repeater.Repeater.open.Given as goal

abbrev pub invariant-loop-index : goal.invariant-loop-index
invariant-loop-index g l = IsSamePass (who_is l.fn.caller) (who_is l.caller)
