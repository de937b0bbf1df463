use Rattle.std.proofs.Common.{arith}
use Rattle.wide_rows.proofs.Whole.{total_rows, rows_low}
use Rattle.wide_rows.proofs.quads.Quads.new.Goals as goal

pub quad_sums-requires : goal.quad_sums-requires
quad_sums-requires c = omega (arith, total_rows c.args.columns.now c.requires.leaf, rows_low c.args.columns.now c.requires.leaf)
