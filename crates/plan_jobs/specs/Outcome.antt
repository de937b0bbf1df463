-- What the answers to the jobs of a plan come to (own). Job k of the plan is the one at place k - 1 of its list.
use Rattle.std.specs.Prelude.{◌≡◌, ℕ, ◌+◌, ◌==◌, ◌<◌, ◌≤◌, List, length, slice_index_or}
use Rattle.std.specs.List.{All, count_by}
use Rattle.plan_jobs.specs.declared.task.PlannedJob.{PlannedJob}
use Rattle.plan_jobs.specs.declared.task.Done.{Done}
use Rattle.plan_jobs.specs.Values.{value_of}

-- the answers are the values of the plan's jobs, one for each in order of number, with its task
abbrev pub IsOutcome : List PlannedJob → List Done → Type 0
IsOutcome jobs ds =
    (length ds ≡ length jobs)
    × ((k : ℕ) (job : PlannedJob) (d : Done) → k < length jobs
    → ((slice_index_or ds k d).number ≡ k + 1)
    × ((slice_index_or ds k d).value ≡ value_of (slice_index_or jobs k job).task)
    × ((slice_index_or ds k d).task ≡ (slice_index_or jobs k job).task))

-- how many answers have the number
abbrev pub times : ℕ → List Done → ℕ
times number ds = count_by (λ (d : Done). d.number == number) ds

-- the answer is that of a job of the plan: its number and its task are the job's
abbrev pub IsOfPlan : List PlannedJob → Done → Type 0
IsOfPlan jobs d =
    (0 < d.number)
    × (d.number ≤ length jobs)
    × ((k : ℕ) (job : PlannedJob) → d.number ≡ k + 1 → d.task ≡ (slice_index_or jobs k job).task)

-- at most one answer has the number, and it is that of a job of the plan
abbrev pub IsSound : List PlannedJob → List Done → ℕ → Type 0
IsSound jobs ds number = (times number ds ≤ 1) × All (λ (d : Done). d.number ≡ number → IsOfPlan jobs d) ds

-- the least number that more than one answer has, or one that is not that of a job of the plan
abbrev pub IsDoubled : List PlannedJob → List Done → ℕ → Type 0
IsDoubled jobs ds number =
    (IsSound jobs ds number → ⊥) × ((less : ℕ) → less < number → IsSound jobs ds less)

-- the least number of a job of the plan that no answer has, where none is doubled
abbrev pub IsMissing : List PlannedJob → List Done → ℕ → Type 0
IsMissing jobs ds number =
    ((each : ℕ) → IsSound jobs ds each)
    × (0 < number)
    × (number ≤ length jobs)
    × (times number ds ≡ 0)
    × ((less : ℕ) → 0 < less → less < number → times less ds ≡ 1)
