use Rattle.std.proofs.Common.{refl}
use Rattle.std.proofs.lemmas.List.{get_or-replicate}
use Rattle.market_drive.proofs.counting.count_jobs.Goals as goal

pub loop-job-init : goal.loop-job-init
loop-job-init c = (refl, λ k h. get_or-replicate 64 k 0 0 h)
