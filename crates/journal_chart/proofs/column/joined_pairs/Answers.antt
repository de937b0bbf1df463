use Rattle.std.proofs.lemmas.Grind.{common_steps}
use Rattle.std.proofs.Common.{arith}
use Rattle.journal_chart.proofs.column.joined_pairs.Goals as goal

pub invariant_of-first : goal.invariant_of-first
invariant_of-first c = grind (arith, common_steps)

pub invariant_of-second : goal.invariant_of-second
invariant_of-second c = grind (arith, common_steps)

pub returns-clause-first : goal.returns-clause-first
returns-clause-first c = grind (arith, common_steps)

pub returns-clause-second : goal.returns-clause-second
returns-clause-second c = grind (arith, common_steps)
