use Rattle.std.proofs.Common.{◌≡◌, ◌+◌, ◌≤◌, ◌++◌, ℕ, false, length, reverse, vec_len, All}
use Rattle.std.specs.List.{sum_by}
use Rattle.plan_jobs.specs.declared.task.Job.{Job}
use Rattle.market_drive.specs.Jobs.{taken_weight}
use Rattle.market_drive.specs.Racks.{IsFor}
use Rattle.market_drive.specs.Reports.{ends_of, shown}
use Rattle.market_drive.proofs.shifts.relieve.Given as goal

abbrev pub invariant-loop-worker : goal.invariant-loop-worker
invariant-loop-worker g l =
    (length l.racks + vec_len l.left ≡ vec_len l.fn.workers)
    × (vec_len l.fn.workers ≤ 16)
    × All (IsFor g.Y.Yard.queues) l.racks
    × (l.reports.torn ≡ false → l.fn.reports.torn ≡ false)
    × (l.reports.torn ≡ false → l.reports.ended ++ ends_of (reverse l.left.items) ≡ l.fn.reports.ended ++ ends_of l.fn.workers.items)
    × (l.reports.torn ≡ false → All g.Y.Yard.answers l.fn.reports.done → All g.Y.Yard.answers l.reports.done)
    × (l.reports.torn ≡ false → (weigh : Job → ℕ) → sum_by weigh (shown l.reports) ≡ sum_by weigh (shown l.fn.reports) + taken_weight weigh l.racks)

abbrev pub decreases-loop-worker : goal.decreases-loop-worker
decreases-loop-worker g l = vec_len l.left
