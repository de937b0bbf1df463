use Rattle.std.proofs.Common.{arith}
use Rattle.wide_rows.proofs.FourSums.{four_sums}
use Rattle.wide_rows.proofs.search.quad_sums.Goals as goal

pub returns-clause-exact : goal.returns-clause-exact
returns-clause-exact c = four_sums c.args.sums.now (omega arith) c.requires
