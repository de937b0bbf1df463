use Rattle.market_lock.specs.Seen.{IsSamePass}
use Rattle.thread_bench.proofs.repeater.Repeater.call_all.Given as goal

abbrev pub invariant-loop-index : goal.invariant-loop-index
invariant-loop-index g l = IsSamePass l.fn.pass l.pass
