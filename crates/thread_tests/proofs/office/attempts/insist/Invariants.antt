use Rattle.std.proofs.Common.{◌≡◌}
use Rattle.thread_tests.proofs.office.attempts.insist.Given as goal

-- an attempt that found the desk away changed nothing
abbrev pub invariant-loop : goal.invariant-loop
invariant-loop g l = l.pass ≡ l.fn.pass
