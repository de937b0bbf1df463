-- What the parts of gathering tell each other, of answers in order of number. No public clause has these words but
-- `IsGatherFault` (own).
use Rattle.std.specs.Prelude.{ℕ, ◌+◌, ◌<◌, List, length, slice_index_or}
use Rattle.std.specs.List.Sorted.{IsNonDecreasingBy}
use Rattle.plan_jobs.specs.declared.task.PlannedJob.{PlannedJob}
use Rattle.plan_jobs.specs.declared.task.Done.{Done}
use Rattle.plan_jobs.specs.declared.gather.GatherFault.{GatherFault}
use Rattle.plan_jobs.specs.declared.gather.GatherFault.TheVariants.{Doubled, Missing}
use Rattle.plan_jobs.specs.Outcome.{IsDoubled, IsMissing, IsOfPlan, IsSound}

-- a fault, where it is due
abbrev pub IsGatherFault : List PlannedJob → List Done → GatherFault → Type 0
IsGatherFault jobs ds (Doubled number) = IsDoubled jobs ds number
IsGatherFault jobs ds (Missing number) = IsMissing jobs ds number

-- the numbers do not fall
abbrev pub IsInOrder : List Done → Type 0
IsInOrder ds = IsNonDecreasingBy (λ (d : Done). d.number) ds

-- every number is sound, all answers are those of jobs of the plan, and their numbers rise
abbrev pub Rises : List PlannedJob → List Done → Type 0
Rises jobs ds =
    ((number : ℕ) → IsSound jobs ds number)
    × ((i : ℕ) (d : Done) → i < length ds → IsOfPlan jobs (slice_index_or ds i d))
    × ((i : ℕ) (d : Done) → i + 1 < length ds → (slice_index_or ds i d).number < (slice_index_or ds (i + 1) d).number)
