use Rattle.std.proofs.Common.{◌≡◌, ◌≤◌, vec_len, vec_capacity}
use Rattle.thread_bench.proofs.calls.repeaters.Given as goal

abbrev pub invariant-loop-seat : goal.invariant-loop-seat
invariant-loop-seat l = (vec_len l.repeaters ≡ l.seat) × (l.threads ≤ vec_capacity l.repeaters)
