use Rattle.std.proofs.Common.{arith}
use Rattle.std.proofs.lemmas.Grind.{common_steps}
use Rattle.journal_chart.proofs.row.Row.figure.Goals as goal

pub returns-in_err-span : goal.returns-in_err-span
returns-in_err-span c = grind (arith, common_steps)

pub returns-in_err-span-2 : goal.returns-in_err-span-2
returns-in_err-span-2 c = grind (arith, common_steps)

pub returns-in_err-span-3 : goal.returns-in_err-span-3
returns-in_err-span-3 c = grind (arith, common_steps)

pub returns-in_err-span-4 : goal.returns-in_err-span-4
returns-in_err-span-4 c = grind (arith, common_steps)

pub returns-in_err-span-5 : goal.returns-in_err-span-5
returns-in_err-span-5 c = grind (arith, common_steps)

pub returns-in_err-span-6 : goal.returns-in_err-span-6
returns-in_err-span-6 c = grind (arith, common_steps)

pub returns : goal.returns
returns c = grind (arith, common_steps)
