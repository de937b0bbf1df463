use Rattle.std.proofs.Common.{◌≡◌, ◌++◌, ℕ, false, reverse, vec_len}
use Rattle.std.specs.List.{sum_by}
use Rattle.plan_jobs.specs.declared.task.Job.{Job}
use Rattle.market_drive.specs.Reports.{shown}
use Rattle.market_drive.proofs.Endings.{faults_of}
use Rattle.market_drive.proofs.shifts.hear.Given as goal

abbrev pub invariant-loop-opener : goal.invariant-loop-opener
invariant-loop-opener l =
    (l.reports.torn ≡ false → l.fn.reports.torn ≡ false)
    × (l.reports.torn ≡ false → l.reports.ended ++ faults_of (reverse l.left.items) ≡ l.fn.reports.ended ++ faults_of (reverse l.fn.openers.items))
    × (l.reports.torn ≡ false → l.reports.done ≡ l.fn.reports.done)
    × (l.reports.torn ≡ false → (weigh : Job → ℕ) → sum_by weigh (shown l.reports) ≡ sum_by weigh (shown l.fn.reports))

abbrev pub decreases-loop-opener : goal.decreases-loop-opener
decreases-loop-opener l = vec_len l.left
