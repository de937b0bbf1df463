-- Which queues a worker may pop from, and what stays of a queue while its takers are away. No clause of a public call has these words
-- (own).
use Rattle.std.specs.Prelude.{◌≡◌, ◌≤◌, ℕ, List, [], map}
use Rattle.job_queue.specs.Seen.{QueueId, OfTaker}
use Rattle.plan_jobs.specs.declared.task.Job.{Job}

-- a worker's takers: of which queues, in their order; for how many there is room; and what is known of each
pub record OfRack : Type 0 where
  pub queues : List QueueId
  pub room : ℕ
  pub takers : List (OfTaker Job)

-- a queue's ends: of which queue, how many of its takers are here, and for how many there is room; the jobs that it was fed with, and what
-- is known of the takers that are here
pub record OfEnds : Type 0 where
  pub queue : QueueId
  pub here : ℕ
  pub room : ℕ
  pub stored : List Job
  pub takers : List (OfTaker Job)

abbrev pub queues_of : List (OfTaker Job) → List QueueId
queues_of ts = map (λ (t : OfTaker Job). t.queue) ts

-- the rack has a taker of each of these queues
abbrev pub IsFor : List QueueId → OfRack → Type 0
IsFor queues r = r.queues ≡ queues

-- it has room for a taker of every queue that there can be
abbrev pub IsRoomy : OfRack → Type 0
IsRoomy r = 64 ≤ r.room

-- the takers of so many workers are away, and can come back
abbrev pub AreAway : ℕ → OfEnds → Type 0
AreAway workers e = (e.queue.feeders ≡ 1) × (e.queue.takers ≡ workers) × (e.here ≡ 0) × (workers ≤ e.room)

-- the same ends, but for what the queue was fed with
abbrev pub unfed : OfEnds → OfEnds
unfed e = record { queue = e.queue; here = e.here; room = e.room; stored = []; takers = e.takers }
