use Rattle.std.proofs.Common.{arith}
use Rattle.wide_rows.specs.Forms.{leveled}
use Rattle.wide_rows.proofs.OneLevel.{total_fits}
use Rattle.wide_rows.proofs.level.Level.total.Goals as goal

pub returns-clause-most : goal.returns-clause-most
returns-clause-most c = omega (arith, c.self.invariant.summed, total_fits (leveled c.self.inside.form) c.self.invariant.sound)
