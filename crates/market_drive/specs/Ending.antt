-- What the ends of workers, and their answers, come to (own).
use Rattle.std.specs.Prelude.{◌≡◌, Bool, true, false, if◌then◌else◌, List, Option, Some, None}
use Rattle.std.specs.List.{list_any}
use Rattle.plan_jobs.specs.declared.task.PlannedJob.{PlannedJob}
use Rattle.plan_jobs.specs.declared.task.Done.{Done}
use Rattle.plan_jobs.specs.Outcome.{IsDoubled, IsMissing}
use Rattle.edit_history.specs.declared.fault.CallFault.TheVariants as fault
use Rattle.worker_main.specs.declared.report.Ended.{Ended}
use Rattle.worker_main.specs.declared.report.Ended.TheVariants as ended
use Rattle.market_drive.specs.declared.fault.DriveFault.{DriveFault}
use Rattle.market_drive.specs.declared.fault.DriveFault.TheVariants.{Unfinished, Doubled, Missing, Memory}

-- since memory ran out: for itself, or for a call
abbrev pub is_for_memory : Ended → Bool
is_for_memory ended.Memory = true
is_for_memory (ended.Call fault.Memory) = true
is_for_memory e = false

-- for another reason than that no work was left
abbrev pub is_broken_off : Ended → Bool
is_broken_off ended.Idle = false
is_broken_off e = true

-- that memory ran out comes first, then any end while work was left
abbrev pub end_fault : List Ended → Option DriveFault
end_fault es =
    if list_any is_for_memory es then Some Memory
    else if list_any is_broken_off es then Some Unfinished
    else None

-- a fault that workers with these ends and these answers come to
abbrev pub IsDueTo : List PlannedJob → List Done → List Ended → DriveFault → Type 0
IsDueTo jobs ds es (Doubled number) = (end_fault es ≡ None) × IsDoubled jobs ds number
IsDueTo jobs ds es (Missing number) = (end_fault es ≡ None) × IsMissing jobs ds number
IsDueTo jobs ds es f = end_fault es ≡ Some f
