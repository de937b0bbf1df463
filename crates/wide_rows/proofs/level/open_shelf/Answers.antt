use Rattle.std.specs.Prelude.{All}
use Rattle.std.proofs.Common.{◌≡◌, ◌<◌, [], ◌∷◌, ◌++◌, List, sym, ap, subst, ◌∙◌}
use Rattle.market_types.specs.declared.row.Row.{Row}
use Rattle.market_types.specs.Rows.{IsNewestFirst}
use Rattle.market_types.proofs.RowOrder.{newest-cons}
use Rattle.wide_rows.specs.Forms.{leveled}
use Rattle.wide_rows.proofs.level.open_shelf.Goals as goal

pub begin-requires-clause-newest : goal.begin-requires-clause-newest
begin-requires-clause-newest c =
    let x = c.args.row.now in
    let old = c.in-Leaf.leaf.value in
    let rows : (leveled c.args.form.now).rows ≡ old = ap (λ form. (leveled form).rows) (sym c.replace.ensures.value ∙ c.in-Leaf.is) in
    let newest : All (λ (other : Row). other.stamp < x.stamp) old = subst (All (λ (other : Row). other.stamp < x.stamp)) rows c.requires.newest in
    let ordered : IsNewestFirst old = subst IsNewestFirst c.deref.ensures c.len-rows.ensures.newest_first in
    let one : c.push_newest.new.self ≡ x ∷ [] = c.push_newest.ensures ∙ ap (λ rows. x ∷ rows) (c.deref_mut.ensures.value ∙ c.take_leaf-newer.ensures.blank) in
    subst (λ (rows : List Row). IsNewestFirst (rows ++ old)) (sym one) (newest-cons x old newest ordered)
