use Rattle.std.proofs.Common.{arith}
use Rattle.wide_rows.proofs.SmallDigits.{digits-few}
use Rattle.wide_rows.proofs.visits.pass_over.Goals as goal

pub returns-clause-counted : goal.returns-clause-counted
returns-clause-counted c = omega (arith, digits-few c.args.sums c.requires.few)
