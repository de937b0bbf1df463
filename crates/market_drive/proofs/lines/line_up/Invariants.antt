use Rattle.std.proofs.Common.{◌≡◌, ℕ, length, take, All}
use Rattle.plan_jobs.specs.declared.task.Job.{Job}
use Rattle.market_drive.specs.Racks.{AreAway, IsFor, IsRoomy}
use Rattle.market_drive.specs.Lines.{queues_at}
use Rattle.market_drive.specs.Arenas.{HasRoomFor}
use Rattle.market_drive.specs.Jobs.{HaveRequestsOf, IsUnfed, taken_weight}
use Rattle.market_drive.proofs.lines.line_up.Given as goal

abbrev pub invariant-loop-place : goal.invariant-loop-place
invariant-loop-place g l =
    (length l.lines.stations ≡ l.place)
    × (length l.racks ≡ l.fn.workers)
    × All (IsFor (queues_at l.lines.stations)) l.racks
    × All IsRoomy l.racks
    × All (AreAway l.fn.workers) l.lines.ends
    × All (HasRoomFor l.fn.plan.jobs) l.lines.stations
    × HaveRequestsOf (take l.place l.fn.plan.arenas) l.lines.stations
    × All IsUnfed l.lines.ends
    × ((weigh : Job → ℕ) → taken_weight weigh l.racks ≡ 0)
