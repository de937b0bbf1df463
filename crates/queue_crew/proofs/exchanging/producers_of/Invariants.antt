use Rattle.std.proofs.Common.{◌≡◌, ◌+◌, ◌≤◌, vec_len, vec_capacity, All, ℕ}
use Rattle.job_queue.specs.Seen.{OfFeeder}
use Rattle.queue_crew.proofs.exchanging.producers_of.Given as goal

abbrev pub invariant-loop-feeder : goal.invariant-loop-feeder
invariant-loop-feeder g l =
    (vec_len l.producers + vec_len l.feeders ≡ vec_len l.fn.feeders)
    × (vec_len l.fn.feeders ≤ vec_capacity l.producers)
    × (vec_capacity l.feeders ≡ vec_capacity l.fn.feeders)
    × All (λ (p : OfFeeder ℕ). p.queue ≡ g.B.Room.id) l.feeders.items

abbrev pub decreases-loop-feeder : goal.decreases-loop-feeder
decreases-loop-feeder g l = vec_len l.feeders
