use Rattle.std.proofs.Common.{◌≡◌, ◌+◌, ◌≤◌, vec_len, vec_capacity}
use Rattle.demo_callers.proofs.forever.attendants.Given as goal

abbrev pub invariant-loop-seed : goal.invariant-loop-seed
invariant-loop-seed g l = (vec_len l.attendants ≡ l.seed) × (l.callers + 1 ≤ vec_capacity l.attendants)
