use Rattle.std.proofs.Common.{arith}
use Rattle.wide_rows.proofs.Vectors.{is_first, is_there}
use Rattle.wide_rows.proofs.search.place_of.Goals as goal

pub returns-clause-first : goal.returns-clause-first
returns-clause-first c = is_first c.args.stamp c.args.keys.now (omega arith)

pub returns-clause-there : goal.returns-clause-there
returns-clause-there c = is_there c.args.stamp c.args.keys.now (omega arith)
