use Rattle.std.proofs.Common.{arith}
use Rattle.wide_rows.proofs.Vectors.{picks_fit, picks_sum}
use Rattle.wide_rows.proofs.search.sum_above.Goals as goal

pub overflow_add-result : goal.overflow_add-result
overflow_add-result c = picks_fit c.args.stamp c.args.keys.now c.args.sums.now (omega arith) (omega arith) (omega (arith, c.requires))

pub returns : goal.returns
returns c = picks_sum c.args.stamp c.args.keys.now c.args.sums.now (omega arith) (omega arith)
