use Rattle.std.proofs.Common.{arith}
use Rattle.plan_jobs.proofs.Sums.{sum_to_more, sum_to_fits}
use Rattle.plan_jobs.proofs.task.sum_to.Goals as goal

pub add-sum-requires : goal.add-sum-requires
add-sum-requires c = let n = c.loop-number.number in let h = sum_to_fits n (omega arith) in let i = c.loop-number.invariant in record { fits = let e = c.from.ensures in omega (arith, h, i, e) }

pub loop-number-preserved : goal.loop-number-preserved
loop-number-preserved c = let h = sum_to_more c.loop-number.number in let i = c.loop-number.invariant in omega (arith, h, i)
