use Rattle.std.specs.List.{slice_get}
use Rattle.std.proofs.Common.{◌-◌, ◌<◌, List, length, ap, sym, ◌∙◌, arith}
use Rattle.market_types.specs.declared.row.Row.{Row}
use Rattle.wide_rows.proofs.OfShelves.{leaf_there, leaf_some, oldest_least, oldest_above}
use Rattle.wide_rows.proofs.storeys.oldest_of.Goals as goal

pub overflow_sub-len : goal.overflow_sub-len
overflow_sub-len c =
    let is = c.deref-2.ensures ∙ leaf_there c.args.leaves.now.items c.args.place c.index-leaf.result.now c.index-leaf.result.now c.requires.there c.index-leaf.ensures in
    omega (arith, c.len.ensures.exact, ap (λ (rows : List Row). length rows) is, c.requires.leaves.some c.args.place c.requires.there)

pub returns-in-Some-clause-least : goal.returns-in-Some-clause-least
returns-in-Some-clause-least c =
    let there = leaf_there c.args.leaves.now.items c.args.place c.index-leaf.result.now c.index-leaf.result.now c.requires.there c.index-leaf.ensures in
    oldest_least c.args.leaves.now.items c.requires.leaves c.args.place (c.len.result - 1) c.requires.there c.in-Some.row
    (omega (arith, c.len.ensures.exact, ap (λ (rows : List Row). length rows) (c.deref-2.ensures ∙ there), c.requires.leaves.some c.args.place c.requires.there))
    (ap (λ rows. slice_get rows (c.len.result - 1)) (sym (c.deref.ensures ∙ there)) ∙ sym c.in-Some.ensures)

pub returns-in-Some-clause-older : goal.returns-in-Some-clause-older
returns-in-Some-clause-older c =
    let there = leaf_there c.args.leaves.now.items c.args.place c.index-leaf.result.now c.index-leaf.result.now c.requires.there c.index-leaf.ensures in
    oldest_above c.args.leaves.now.items c.requires.leaves c.args.place (c.len.result - 1) c.requires.there c.in-Some.row
    (omega (arith, c.len.ensures.exact, ap (λ (rows : List Row). length rows) (c.deref-2.ensures ∙ there), c.requires.leaves.some c.args.place c.requires.there))
    (ap (λ rows. slice_get rows (c.len.result - 1)) (sym (c.deref.ensures ∙ there)) ∙ sym c.in-Some.ensures)

pub returns-in-None-clause-older : goal.returns-in-None-clause-older
returns-in-None-clause-older c =
    let there = leaf_there c.args.leaves.now.items c.args.place c.index-leaf.result.now c.index-leaf.result.now c.requires.there c.index-leaf.ensures in
    let within : c.len.result - 1 < length c.deref.result.now =
    omega (arith, c.len.ensures.exact, ap (λ (rows : List Row). length rows) (c.deref-2.ensures ∙ there), ap (λ (rows : List Row). length rows) (c.deref.ensures ∙ there), c.requires.leaves.some c.args.place c.requires.there) in
    absurd (leaf_some c.deref.result.now (c.len.result - 1) within (sym c.in-None.ensures))
