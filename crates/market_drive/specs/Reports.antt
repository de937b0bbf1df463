-- What the workers of a plan have reported. No clause of a public call has these words (own).
use Rattle.std.specs.Prelude.{Bool, false, List, [], ◌∷◌, ◌++◌, Option, Some, None}
use Rattle.std.specs.List.{flat_map}
use Rattle.std.specs.Option.{option_to_list}
use Rattle.edit_history.specs.declared.fault.CallFault.{CallFault}
use Rattle.plan_jobs.specs.declared.task.Job.{Job}
use Rattle.plan_jobs.specs.declared.task.Done.{Done}
use Rattle.worker_main.specs.declared.report.Ended.{Ended}
use Rattle.worker_main.specs.declared.report.Ended.TheVariants.{Call}
use Rattle.worker_main.specs.Books.{results}
use Rattle.market_drive.specs.Jobs.{all_kept_back}

-- all answers, how each ended, and whether something is missing for which there was no memory
pub record OfReports : Type 0 where
  pub done : List Done
  pub ended : List Ended
  pub torn : Bool

-- nothing was reported yet
abbrev pub untold : OfReports
untold = record { done = []; ended = []; torn = false }

-- these answers more, by a worker that ended so; and an end more
abbrev pub told : OfReports → List Done → Ended → OfReports
told r ds ended = record { done = r.done ++ ds; ended = r.ended ++ ended ∷ []; torn = false }

-- the jobs that were answered, or taken and not run
abbrev pub shown : OfReports → List Job
shown r = results r.done ++ all_kept_back r.ended

-- the ends that are reported, of these who may have ended
abbrev pub ends_of : List (Option Ended) → List Ended
ends_of es = flat_map option_to_list es

-- the end that a fault is
abbrev pub end_for : Option CallFault → Option Ended
end_for None = None
end_for (Some fault) = Some (Call fault)
