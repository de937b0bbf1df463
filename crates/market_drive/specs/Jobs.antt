-- The jobs that a plan's queues are fed with, and what came out of them. No clause of a public call has these words but `HaveRequestsOf`
-- (own).
use Rattle.std.specs.Prelude.{◌≡◌, ℕ, ◌==◌, List, [], ◌++◌, map, slice_get, Option, Some, None, IsPermutation}
use Rattle.std.specs.List.{enumerate_from, filter, flat_map, sum_by}
use Rattle.job_queue.specs.Seen.{OfTaker, all_taken}
use Rattle.drive_plan.specs.declared.plan.PlannedArena.{PlannedArena}
use Rattle.plan_jobs.specs.declared.task.PlannedJob.{PlannedJob}
use Rattle.plan_jobs.specs.declared.task.Job.{Job}
use Rattle.plan_jobs.specs.declared.task.Done.{Done}
use Rattle.worker_main.specs.declared.station.Station.{Station}
use Rattle.worker_main.specs.declared.report.Ended.{Ended}
use Rattle.worker_main.specs.Books.{jobs_of, results, kept_back}
use Rattle.market_drive.specs.Racks.{OfEnds, OfRack}

-- a job with its number
abbrev pub job_of : ℕ × PlannedJob → Job
job_of e = record { number = e.0; task = e.1.task }

-- the jobs of a plan, each with its number from 1 on
abbrev pub numbered : List PlannedJob → List Job
numbered jobs = map job_of (enumerate_from 1 jobs)

-- those of one arena, in order, with their numbers
abbrev pub jobs_for : ℕ → List PlannedJob → List Job
jobs_for arena jobs = map job_of (filter (λ (e : ℕ × PlannedJob). e.1.arena == arena) (enumerate_from 1 jobs))

-- the jobs that takers took
abbrev pub taken_by : List (OfTaker Job) → List Job
taken_by ts = jobs_of (all_taken ts)

-- the queue has one feeder, and was fed with nothing yet
abbrev pub IsUnfed : OfEnds → Type 0
IsUnfed e = (e.queue.feeders ≡ 1) × (e.stored ≡ [])

-- each station's queue was fed with its arena's jobs
abbrev pub AreFed : List PlannedJob → List Station → List OfEnds → Type 0
AreFed jobs ss es = (k : ℕ) (s : Station) (e : OfEnds) → slice_get ss k ≡ Some s → slice_get es k ≡ Some e → e.stored ≡ jobs_for s.arena jobs

-- the stations give back what the plan's arenas ask for
abbrev pub HaveRequestsOf : List PlannedArena → List Station → Type 0
HaveRequestsOf arenas ss =
    map {B = ℕ × ℕ} (λ (s : Station). (s.wanted, s.mandatory)) ss ≡ map {B = ℕ × ℕ} (λ (a : PlannedArena). (a.wanted, a.mandatory)) arenas

-- ---- jobs are counted by sums: however jobs are weighed, those of the one list weigh what those of the other do

-- what the jobs weigh together that all racks' takers took, and those that all queues were fed with
abbrev pub taken_weight : (Job → ℕ) → List OfRack → ℕ
taken_weight weigh rs = sum_by (λ (r : OfRack). sum_by weigh (taken_by r.takers)) rs

abbrev pub fed_weight : (Job → ℕ) → List OfEnds → ℕ
fed_weight weigh es = sum_by (λ (e : OfEnds). sum_by weigh e.stored) es

-- the jobs that were taken and not run, by workers that ended so
abbrev pub all_kept_back : List Ended → List Job
all_kept_back es = flat_map kept_back es

-- what a worker has to show for the jobs that it took: none before it has worked
abbrev pub HasShown : List (OfTaker Job) → List Done → Option Ended → Type 0
HasShown ts ds None = (taken_by ts ≡ []) × (ds ≡ [])
HasShown ts ds (Some ended) = IsPermutation (taken_by ts) (results ds ++ kept_back ended)
