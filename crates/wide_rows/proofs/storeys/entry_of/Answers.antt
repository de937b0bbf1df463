use Rattle.std.proofs.Common.{List, is_some, length, ap, ◌∙◌}
use Rattle.market_types.specs.Rows.{requests, first_mandated}
use Rattle.market_types.specs.declared.row.Row.{Row}
use Rattle.wide_rows.proofs.OfShelves.{leaf_there}
use Rattle.wide_rows.proofs.storeys.entry_of.Goals as goal

pub returns-clause-sum : goal.returns-clause-sum
returns-clause-sum c =
    c.total.ensures.exact ∙ ap requests (c.deref.ensures ∙ leaf_there c.args.leaves.now.items c.args.place c.index-leaf.result.now c.index-leaf.result.now c.requires.there c.index-leaf.ensures)

pub returns-clause-count_is : goal.returns-clause-count_is
returns-clause-count_is c =
    c.len.ensures.exact ∙ ap (λ (rows : List Row). length rows) (c.deref-2.ensures ∙ leaf_there c.args.leaves.now.items c.args.place c.index-leaf.result.now c.index-leaf.result.now c.requires.there c.index-leaf.ensures)

pub returns-clause-mandated : goal.returns-clause-mandated
returns-clause-mandated c =
    c.has_mandated.ensures
    ∙ ap (λ (rows : List Row). is_some (first_mandated rows)) (c.deref-3.ensures ∙ leaf_there c.args.leaves.now.items c.args.place c.index-leaf.result.now c.index-leaf.result.now c.requires.there c.index-leaf.ensures)
