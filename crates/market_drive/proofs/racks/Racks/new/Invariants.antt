use Rattle.std.proofs.Common.{◌≡◌, ◌≤◌, ◌-◌, ℕ, [], length, All}
use Rattle.plan_jobs.specs.declared.task.Job.{Job}
use Rattle.market_drive.specs.Jobs.{taken_weight}
use Rattle.market_drive.specs.Racks.{IsFor, IsRoomy}
use Rattle.market_drive.proofs.racks.Racks.new.Given as goal

abbrev pub invariant-loop-alloc : goal.invariant-loop-alloc
invariant-loop-alloc l = (length l.racks ≤ l.fn.workers) × All (IsFor []) l.racks × All IsRoomy l.racks × ((weigh : Job → ℕ) → taken_weight weigh l.racks ≡ 0)

abbrev pub decreases-loop-alloc : goal.decreases-loop-alloc
decreases-loop-alloc l = l.fn.workers - length l.racks
