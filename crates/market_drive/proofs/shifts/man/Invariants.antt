use Rattle.std.proofs.Common.{◌≡◌, ◌+◌, ◌≤◌, [], length, vec_len, vec_capacity, All, Option, None}
use Rattle.worker_main.specs.declared.report.Ended.{Ended}
use Rattle.market_drive.specs.Jobs.{taken_by}
use Rattle.market_drive.specs.Racks.{IsFor, OfRack}
use Rattle.market_drive.proofs.shifts.man.Given as goal

abbrev pub invariant-loop-rack : goal.invariant-loop-rack
invariant-loop-rack g l =
    (vec_len l.workers + length l.racks ≡ length l.fn.racks)
    × (length l.fn.racks ≤ vec_capacity l.workers)
    × All (IsFor g.Y.Yard.queues) l.racks
    × All (λ (r : OfRack). taken_by r.takers ≡ []) l.racks
    × All (λ (w : Option Ended). w ≡ None) l.workers.items

abbrev pub decreases-loop-rack : goal.decreases-loop-rack
decreases-loop-rack g l = length l.racks
