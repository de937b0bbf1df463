use Rattle.std.proofs.Common.{ap, ◌∙◌, arith}
use Rattle.market_types.specs.Rows.{requests}
use Rattle.wide_rows.proofs.Whole.{total_rows, rows_low}
use Rattle.wide_rows.proofs.leaf.Leaf.total.Goals as goal

pub total-requires : goal.total-requires
total-requires c =
    let d = c.self.inside.columns in
    omega (arith, total_rows d c.self.invariant, rows_low d c.self.invariant)

pub returns-clause-exact : goal.returns-clause-exact
returns-clause-exact c = c.total.ensures ∙ total_rows c.self.inside.columns c.self.invariant ∙ ap requests c.self.view_is

pub returns-clause-most : goal.returns-clause-most
returns-clause-most c =
    let d = c.self.inside.columns in
    omega (arith, c.total.ensures, total_rows d c.self.invariant, rows_low d c.self.invariant)
