use Rattle.std.proofs.Common.{◌≡◌, ◌≤◌, vec_len, vec_capacity}
use Rattle.demo_callers.proofs.visits.visitors.Given as goal

abbrev pub invariant-loop-seed : goal.invariant-loop-seed
invariant-loop-seed l = (vec_len l.visitors ≡ l.seed) × (l.callers ≤ vec_capacity l.visitors)
