use Rattle.std.proofs.Common.{◌≡◌, ℕ, [], vec_len, All}
use Rattle.plan_jobs.specs.declared.task.Job.{Job}
use Rattle.market_drive.specs.Jobs.{taken_weight}
use Rattle.market_drive.specs.Racks.{IsFor}
use Rattle.market_drive.proofs.racks.Racks.destroy.Given as goal

abbrev pub invariant-loop-rack : goal.invariant-loop-rack
invariant-loop-rack l = All (IsFor []) l.left.items × ((weigh : Job → ℕ) → taken_weight weigh l.left.items ≡ taken_weight weigh l.fn.self)

abbrev pub decreases-loop-rack : goal.decreases-loop-rack
decreases-loop-rack l = vec_len l.left
