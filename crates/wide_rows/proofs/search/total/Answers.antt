use Rattle.std.proofs.Common.{arith, w32}
use Rattle.std.proofs.lemmas.Simd.{sum_fits, fold-sum}
use Rattle.wide_rows.proofs.Vectors.{sum_l-total}
use Rattle.wide_rows.proofs.search.total.Goals as goal

pub overflow_add-result : goal.overflow_add-result
overflow_add-result c = sum_fits w32 0 c.args.sums.now (omega (arith, c.requires, sum_l-total c.args.sums.now))

pub returns : goal.returns
returns c = omega (arith, fold-sum 0 c.args.sums.now, sum_l-total c.args.sums.now)
