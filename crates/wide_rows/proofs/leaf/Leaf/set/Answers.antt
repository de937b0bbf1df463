use Rattle.std.proofs.Common.{◌≡◌, ap, subst, ◌∙◌, arith}
use Rattle.market_types.specs.Rows.{set_row}
use Rattle.wide_rows.specs.Leaves.{rows_in}
use Rattle.wide_rows.proofs.Whole.{set_nowhere, set_there, set_leaf}
use Rattle.wide_rows.proofs.leaf.Leaf.set.Goals as goal

-- the rows after the write
is : (c : goal.After-set) → rows_in c.set.new.self ≡ set_row c.args.stamp c.args.request c.args.mandated (rows_in c.self.inside.columns)
is c =
    let d = c.self.inside.columns in
    let place = c.place_of-place.result in
    set_there d c.self.invariant c.args.stamp place c.place_of-place.ensures.first c.set.new.self c.if-place-self.true (c.place_of-place.ensures.there (omega (arith, c.if-place-self.true, c.self.invariant.tidy.room)))
    c.args.request c.args.mandated c.set.ensures.count c.set.ensures.rows

pub invariant_of-self : goal.invariant_of-self
invariant_of-self c = set_leaf c.self.inside.columns c.self.invariant c.args.stamp c.place_of-place.result c.place_of-place.ensures.first c.set.new.self c.if-place-self.true (c.place_of-place.ensures.there (omega (arith, c.if-place-self.true, c.self.invariant.tidy.room)))
    c.args.request c.args.mandated c.requires c.set.ensures.tidy (is c)

pub returns-then-place-self : goal.returns-then-place-self
returns-then-place-self c = is c ∙ ap (set_row c.args.stamp c.args.request c.args.mandated) c.self.view_is

pub returns-else-place-self : goal.returns-else-place-self
returns-else-place-self c =
    subst (λ rows. rows ≡ set_row c.args.stamp c.args.request c.args.mandated rows) c.self.view_is
    (set_nowhere c.self.inside.columns c.self.invariant c.args.stamp c.place_of-place.result c.place_of-place.ensures.first c.args.request c.args.mandated c.if-place-self.false)
