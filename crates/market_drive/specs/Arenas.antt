-- Which jobs are an arena's, and what its queue is like. No clause of a public call has these words but `AreNumbered` (own).
use Rattle.std.specs.Prelude.{◌≡◌, ℕ, ◌+◌, ◌<◌, ◌==◌, max, List, length, slice_index_or}
use Rattle.std.specs.List.{count_by}
use Rattle.plan_jobs.specs.declared.task.PlannedJob.{PlannedJob}
use Rattle.worker_main.specs.declared.station.Station.{Station}

-- how many of the jobs are this arena's
abbrev pub count_of : List PlannedJob → ℕ → ℕ
count_of jobs arena = count_by (λ (job : PlannedJob). job.arena == arena) jobs

-- the station's queue has room for as many jobs as its arena has, or for one where it has none
abbrev pub HasRoomFor : List PlannedJob → Station → Type 0
HasRoomFor jobs s = s.queue.capacity ≡ max (count_of jobs s.arena) 1

-- the stations are those of the arenas from 1 on, in order
abbrev pub AreNumbered : List Station → Type 0
AreNumbered ss = (k : ℕ) (s : Station) → k < length ss → (slice_index_or ss k s).arena ≡ k + 1
