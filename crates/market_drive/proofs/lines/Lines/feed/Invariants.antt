use Rattle.std.proofs.Common.{◌≡◌, ◌≤◌, ℕ, vec_capacity, map, take}
use Rattle.std.specs.List.{sum_by}
use Rattle.plan_jobs.specs.declared.task.Job.{Job}
use Rattle.market_drive.specs.Racks.{unfed}
use Rattle.market_drive.specs.Jobs.{AreFed, fed_weight, numbered}
use Rattle.market_drive.proofs.lines.Lines.feed.Given as goal

abbrev pub invariant-loop-index : goal.invariant-loop-index
invariant-loop-index g l =
    (map unfed l.ends.items ≡ map unfed l.initial.ends.items)
    × (64 ≤ vec_capacity l.ends)
    × AreFed (take l.index l.jobs) l.stations.items l.ends.items
    × ((weigh : Job → ℕ) → fed_weight weigh l.ends.items ≡ sum_by weigh (numbered (take l.index l.jobs)))
