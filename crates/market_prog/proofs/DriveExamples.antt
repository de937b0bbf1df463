-- Plans worked out by hand, with what is written of them.
use Rattle.std.proofs.Common.{◌≡◌, ℕ, List, [], ◌∷◌, ◌++◌, Ok, Err, refl, codes}
use Rattle.std.specs.Fmt.{digits}
use Rattle.market_texts.specs.Reading.{level, number}
use Rattle.line_engine.specs.Lines.{ended_lines, unfinished_line}
use Rattle.plan_jobs.specs.declared.task.PlannedJob.{PlannedJob}
use Rattle.plan_jobs.specs.declared.task.Task.TheVariants.{Sum, Digits}
use Rattle.drive_plan.specs.declared.reader.PlanFault.TheVariants as plan
use Rattle.drive_plan.specs.Reading.{line_of, long_number}
use Rattle.drive_plan.specs.Format.{plan_of}
use Rattle.market_drive.specs.declared.fault.DriveFault.TheVariants.{BadPlan, Unservable, Unfinished, Doubled, Missing, Memory}
use Rattle.market_prog.specs.declared.drive.DriveEnd.TheVariants.{Finished, Refused}
use Rattle.market_prog.specs.declared.fault.RunFault.TheVariants as run
use Rattle.market_prog.specs.Drive.{drive_status}
use Rattle.market_prog.specs.DriveTexts.{outcome_lines, fault_line}

-- two arenas, and three jobs for them
abbrev arenas : List ℕ
arenas = codes "market 8 64\narena 8 1 normal 2 0\narena 8 1 low 1 0\n"

abbrev jobs : List PlannedJob
jobs = record { arena = 1; task = Sum 10 } ∷ record { arena = 1; task = Digits 9081 } ∷ record { arena = 2; task = Sum 100 } ∷ []

three_jobs :
    plan_of (arenas ++ codes "job 1 sum 10\njob 1 digits 9081\njob 2 sum 100\n")
    ≡ Ok (record {
      base = 8;
      hard = 64;
      levels = 3;
      arenas = record { slots = 8; reserved = 1; level = 2; wanted = 2; mandatory = 0 } ∷ record { slots = 8; reserved = 1; level = 3; wanted = 1; mandatory = 0 } ∷ [];
      controls = [];
      jobs = jobs;
    })
unfolding ended_lines unfinished_line line_of number long_number level
three_jobs = refl

their_outcome : outcome_lines 1 jobs ≡ codes "job 1 55\njob 2 18\njob 3 5050\n"
unfolding digits
their_outcome = refl

no_job : outcome_lines 1 [] ≡ []
no_job = refl

job_of_no_arena : plan_of (arenas ++ codes "job 1 sum 10\njob 1 digits 9081\njob 3 sum 100\n") ≡ Err (plan.BadPlan 6)
unfolding ended_lines unfinished_line line_of number long_number level
job_of_no_arena = refl

faults : (fault_line (BadPlan 6) ≡ codes "G01 bad plan line 6\n")
    × (fault_line (Unservable 1) ≡ codes "G02 unservable arena 1\n")
    × (fault_line Unfinished ≡ codes "G03 unfinished\n")
    × (fault_line (Doubled 2) ≡ codes "G04 doubled job 2\n")
    × (fault_line (Missing 3) ≡ codes "G05 missing job 3\n")
    × (fault_line Memory ≡ [])
unfolding digits
faults = (refl, refl, refl, refl, refl, refl)

statuses : (drive_status (Ok Finished) ≡ 0)
    × (drive_status (Ok (Refused (BadPlan 6))) ≡ 1)
    × (drive_status (Ok (Refused Unfinished)) ≡ 1)
    × (drive_status (Ok (Refused Memory)) ≡ 3)
    × (drive_status (Err run.Memory) ≡ 3)
statuses = (refl, refl, refl, refl, refl)
