use Rattle.std.proofs.Common.{◌≡◌, ◌+◌, ◌≤◌, vec_len, vec_capacity, All, ℕ}
use Rattle.job_queue.specs.Seen.{OfTaker}
use Rattle.queue_crew.proofs.exchanging.consumers_of.Given as goal

abbrev pub invariant-loop-taker : goal.invariant-loop-taker
invariant-loop-taker g l =
    (vec_len l.consumers + vec_len l.takers ≡ vec_len l.fn.takers)
    × (vec_len l.fn.takers ≤ vec_capacity l.consumers)
    × (vec_capacity l.takers ≡ vec_capacity l.fn.takers)
    × All (λ (p : OfTaker ℕ). p.queue ≡ g.B.Room.id) l.takers.items

abbrev pub decreases-loop-taker : goal.decreases-loop-taker
decreases-loop-taker g l = vec_len l.takers
