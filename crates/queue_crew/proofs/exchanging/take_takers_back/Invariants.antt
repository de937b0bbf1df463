use Rattle.std.proofs.Common.{◌≡◌, ◌+◌, ◌≤◌, vec_len, vec_capacity, All, ℕ}
use Rattle.job_queue.specs.Seen.{OfTaker}
use Rattle.queue_crew.proofs.exchanging.take_takers_back.Given as goal

abbrev pub invariant-loop-consumer : goal.invariant-loop-consumer
invariant-loop-consumer g l =
    (vec_len l.takers + vec_len l.consumers ≡ vec_len l.fn.consumers)
    × (vec_len l.fn.consumers ≤ vec_capacity l.takers)
    × All (λ (p : OfTaker ℕ). p.queue ≡ g.B.Room.id) l.takers.items
    × (vec_len l.got + vec_len l.consumers ≡ vec_len l.fn.consumers)
    × (vec_len l.fn.consumers ≤ vec_capacity l.got)

abbrev pub decreases-loop-consumer : goal.decreases-loop-consumer
decreases-loop-consumer g l = vec_len l.consumers
