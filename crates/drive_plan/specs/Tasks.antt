-- What the reader of a task answers, which no public clause has.
use Rattle.std.specs.Prelude.{ℕ, List, [], ◌∷◌, Option, None}
use Rattle.plan_jobs.specs.declared.task.Task.{Task}
use Rattle.drive_plan.specs.Reading.{task_of}

-- the task of a job's last fields: its kind and its argument, and no other
abbrev pub task_left : List (List ℕ) → Option Task
task_left [] = None
task_left (kind ∷ []) = None
task_left (kind ∷ field ∷ []) = task_of kind field
task_left (kind ∷ field ∷ other ∷ more) = None
