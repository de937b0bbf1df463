use Rattle.std.proofs.Common.{ap, ◌∙◌, ◌≡◌, ◌∷◌, [], arith}
use Rattle.wide_rows.specs.Leaves.{lane, rows_in, rows_below}
use Rattle.market_types.specs.Rows.{requests_above}
use Rattle.wide_rows.proofs.Whole.{above_rows, above_low, total_rows, rows_low}
use Rattle.wide_rows.proofs.leaf.Leaf.sum_above.Goals as goal

pub sum_above-requires : goal.sum_above-requires
sum_above-requires c =
    let d = c.self.inside.columns in
    omega (arith, total_rows d c.self.invariant, rows_low d c.self.invariant)

pub returns-then-self-eq1-clause-most : goal.returns-then-self-eq1-clause-most
returns-then-self-eq1-clause-most c =
    let d = c.self.inside.columns in
    let one : rows_in d ≡ lane d 0 ∷ [] = ap (rows_below (lane d)) c.if-self-eq1.true in
    omega (arith, c.above.ensures, ap (requests_above c.args.stamp) one, above_rows d c.self.invariant c.args.stamp, above_low d c.self.invariant c.args.stamp)

pub returns-clause-exact : goal.returns-clause-exact
returns-clause-exact c = c.sum_above.ensures ∙ above_rows c.self.inside.columns c.self.invariant c.args.stamp ∙ ap (requests_above c.args.stamp) c.self.view_is

pub returns-clause-most : goal.returns-clause-most
returns-clause-most c =
    let d = c.self.inside.columns in
    omega (arith, c.sum_above.ensures, above_rows d c.self.invariant c.args.stamp, above_low d c.self.invariant c.args.stamp)
