use Rattle.std.proofs.Common.{◌≡◌, ap, subst, ◌∙◌, Some, arith}
use Rattle.market_types.specs.Rows.{row_at, without}
use Rattle.wide_rows.specs.Leaves.{rows_in}
use Rattle.wide_rows.proofs.Whole.{row_there, row_nowhere, removed_there, without_nowhere, without_leaf}
use Rattle.wide_rows.proofs.leaf.Leaf.take.Goals as goal

-- the rows after the write
is : (c : goal.After-remove) → rows_in c.remove.new.self ≡ without c.args.stamp (rows_in c.self.inside.columns)
is c =
    removed_there c.self.inside.columns c.self.invariant c.args.stamp c.place_of-place.result c.place_of-place.ensures.first c.remove.new.self c.if-place-self.true
    (c.place_of-place.ensures.there (omega (arith, c.if-place-self.true, c.self.invariant.tidy.room))) c.remove.ensures.count c.remove.ensures.rows

pub invariant_of-self : goal.invariant_of-self
invariant_of-self c = without_leaf c.self.inside.columns c.self.invariant c.args.stamp c.remove.new.self c.remove.ensures.tidy (is c)

pub returns-then-place-self-clause-taken : goal.returns-then-place-self-clause-taken
returns-then-place-self-clause-taken c =
    ap Some c.row-row.ensures
    ∙ row_there c.self.inside.columns c.self.invariant c.args.stamp c.place_of-place.result c.place_of-place.ensures.first c.if-place-self.true
    (c.place_of-place.ensures.there (omega (arith, c.if-place-self.true, c.self.invariant.tidy.room)))
    ∙ ap (row_at c.args.stamp) c.self.view_is

pub returns-then-place-self-clause-rows : goal.returns-then-place-self-clause-rows
returns-then-place-self-clause-rows c = is c ∙ ap (without c.args.stamp) c.self.view_is

pub returns-else-place-self-clause-taken : goal.returns-else-place-self-clause-taken
returns-else-place-self-clause-taken c =
    row_nowhere c.self.inside.columns c.self.invariant c.args.stamp c.place_of-place.result c.place_of-place.ensures.first c.if-place-self.false ∙ ap (row_at c.args.stamp) c.self.view_is

pub returns-else-place-self-clause-rows : goal.returns-else-place-self-clause-rows
returns-else-place-self-clause-rows c =
    subst (λ rows. rows ≡ without c.args.stamp rows) c.self.view_is
    (without_nowhere c.self.inside.columns c.self.invariant c.args.stamp c.place_of-place.result c.place_of-place.ensures.first c.if-place-self.false)
