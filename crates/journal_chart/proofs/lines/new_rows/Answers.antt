use Rattle.std.proofs.lemmas.Grind.{common_steps}
use Rattle.std.proofs.Common.{arith}
use Rattle.journal_chart.proofs.lines.new_rows.Goals as goal

pub loop-arena-preserved : goal.loop-arena-preserved
loop-arena-preserved c = grind (arith, common_steps)

pub returns : goal.returns
returns c = grind (arith, common_steps)
