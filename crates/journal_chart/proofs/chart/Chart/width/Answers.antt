use Rattle.std.proofs.Common.{arith}
use Rattle.journal_chart.proofs.Charts.{wide}
use Rattle.journal_chart.proofs.chart.Chart.width.Goals as goal

pub returns-clause-some : goal.returns-clause-some
returns-clause-some c = omega (arith, c.self.invariant.1, wide c.self.inside.columns c.self.inside.moments c.self.invariant.0)
