use Rattle.std.proofs.Common.{◌≡◌, ◌+◌, ◌≤◌, vec_len, vec_capacity, All, ℕ}
use Rattle.job_queue.specs.Seen.{OfFeeder}
use Rattle.queue_crew.proofs.exchanging.take_feeders_back.Given as goal

abbrev pub invariant-loop-producer : goal.invariant-loop-producer
invariant-loop-producer g l =
    (vec_len l.feeders + vec_len l.producers ≡ vec_len l.fn.producers)
    × (vec_len l.fn.producers ≤ vec_capacity l.feeders)
    × All (λ (p : OfFeeder ℕ). p.queue ≡ g.B.Room.id) l.feeders.items

abbrev pub decreases-loop-producer : goal.decreases-loop-producer
decreases-loop-producer g l = vec_len l.producers
