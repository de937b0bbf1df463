-- What is written of a plan that was driven (own).
use Rattle.std.specs.Prelude.{ℕ, ◌+◌, List, [], ◌∷◌, ◌++◌, codes, decimal}
use Rattle.plan_jobs.specs.declared.task.PlannedJob.{PlannedJob}
use Rattle.plan_jobs.specs.declared.task.Done.{Done}
use Rattle.plan_jobs.specs.Values.{value_of}
use Rattle.market_drive.specs.declared.fault.DriveFault.{DriveFault}
use Rattle.market_drive.specs.declared.fault.DriveFault.TheVariants.{BadPlan, Unservable, Unfinished, Doubled, Missing, Memory}

-- a job's number, and its value
abbrev pub job_line : ℕ → ℕ → List ℕ
job_line number value = codes "job " ++ (decimal number ++ (codes " " ++ (decimal value ++ codes "\n")))

-- a line for each of the jobs, the first of which has this number
abbrev pub outcome_lines : ℕ → List PlannedJob → List ℕ
outcome_lines number [] = []
outcome_lines number (job ∷ jobs) = job_line number (value_of job.task) ++ outcome_lines (number + 1) jobs

-- a line for each of the answers (no clause of a public call has this word)
abbrev pub answer_lines : List Done → List ℕ
answer_lines [] = []
answer_lines (d ∷ ds) = job_line d.number d.value ++ answer_lines ds

-- a fault by a text and a number
abbrev pub numbered_line : List ℕ → ℕ → List ℕ
numbered_line text number = text ++ (decimal number ++ codes "\n")

-- the line of a fault; where memory ran out there is none
abbrev pub fault_line : DriveFault → List ℕ
fault_line (BadPlan line) = numbered_line (codes "G01 bad plan line ") line
fault_line (Unservable arena) = numbered_line (codes "G02 unservable arena ") arena
fault_line Unfinished = codes "G03 unfinished\n"
fault_line (Doubled number) = numbered_line (codes "G04 doubled job ") number
fault_line (Missing number) = numbered_line (codes "G05 missing job ") number
fault_line Memory = []
