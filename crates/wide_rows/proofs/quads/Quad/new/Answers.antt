use Rattle.std.proofs.Common.{arith}
use Rattle.wide_rows.proofs.Passing.{few_rows}
use Rattle.wide_rows.proofs.quads.Quad.new.Goals as goal

pub returns-clause-some : goal.returns-clause-some
returns-clause-some c = (few_rows _ _ (omega (arith, c.requires.some, c.min.ensures)) (omega (arith, c.min.ensures))).0

pub returns-clause-four : goal.returns-clause-four
returns-clause-four c = (few_rows _ _ (omega (arith, c.requires.some, c.min.ensures)) (omega (arith, c.min.ensures))).1
