use Rattle.std.proofs.Common.{◌≡◌, ◌+◌, ◌≤◌, [], ◌∷◌, ◌++◌, List, ℕ, length, vec_len, vec_capacity, All}
use Rattle.std.specs.List.{sum_by}
use Rattle.job_queue.specs.Seen.{QueueId}
use Rattle.plan_jobs.specs.declared.task.Job.{Job}
use Rattle.market_drive.specs.Jobs.{taken_by, taken_weight}
use Rattle.market_drive.specs.Racks.{IsFor}
use Rattle.market_drive.proofs.racks.Racks.collect.Given as goal

abbrev pub invariant-loop-rack : goal.invariant-loop-rack
invariant-loop-rack l =
    (l.ends.queue ≡ l.fn.ends.queue)
    × (l.ends.room ≡ l.fn.ends.room)
    × (l.ends.here ≡ vec_len l.done)
    × (vec_len l.done + vec_len l.left ≡ length l.fn.self)
    × (length l.fn.self ≤ 16)
    × (16 ≤ vec_capacity l.left)
    × (16 ≤ vec_capacity l.done)
    × ((queues : List QueueId) → All (IsFor (queues ++ l.fn.ends.queue ∷ [])) l.fn.self → All (IsFor (queues ++ l.fn.ends.queue ∷ [])) l.left.items × All (IsFor queues) l.done.items)
    × ((weigh : Job → ℕ) → (taken_weight weigh l.left.items + taken_weight weigh l.done.items) + sum_by weigh (taken_by l.ends.takers) ≡ taken_weight weigh l.fn.self + sum_by weigh (taken_by l.fn.ends.takers))
    × (l.ends.stored ≡ l.fn.ends.stored)

abbrev pub decreases-loop-rack : goal.decreases-loop-rack
decreases-loop-rack l = vec_len l.left
