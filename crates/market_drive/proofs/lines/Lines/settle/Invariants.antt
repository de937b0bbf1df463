use Rattle.std.proofs.Common.{◌≡◌, ◌≤◌, ◌+◌, ℕ, length, vec_len, All}
use Rattle.plan_jobs.specs.declared.task.Job.{Job}
use Rattle.market_drive.specs.Jobs.{fed_weight, taken_weight}
use Rattle.market_drive.specs.Racks.{AreAway, IsFor}
use Rattle.market_drive.specs.Lines.{queues_at, queues_ended}
use Rattle.market_drive.proofs.lines.Lines.settle.Given as goal

abbrev pub invariant-loop-station : goal.invariant-loop-station
invariant-loop-station g l =
    (queues_ended l.ends.items ≡ queues_at l.stations.items)
    × All (IsFor (queues_at l.stations.items)) l.racks
    × All (AreAway (length l.fn.racks)) l.ends.items
    × (length l.racks ≡ length l.fn.racks)
    × ((weigh : Job → ℕ) → taken_weight weigh l.fn.racks + fed_weight weigh l.ends.items ≤ taken_weight weigh l.racks + fed_weight weigh l.fn.self.ends)

abbrev pub decreases-loop-station : goal.decreases-loop-station
decreases-loop-station g l = vec_len l.stations
