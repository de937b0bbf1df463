use Rattle.std.proofs.Common.{length, ap, ◌∙◌, arith}
use Rattle.market_types.specs.declared.row.Row.{Row}
use Rattle.std.proofs.Common.{List}
use Rattle.market_types.specs.Bits.{bits}
use Rattle.wide_rows.proofs.Counted.{bits-le}
use Rattle.wide_rows.proofs.OfShelves.{leaf_there, in_leaf}
use Rattle.wide_rows.proofs.storeys.Storeys.find_near.Goals as goal

pub spans-requires : goal.spans-requires
spans-requires c =
    let there = leaf_there c.args.leaves.now.items c.args.near c.index-leaf.result.now c.index-leaf.result.now (omega (arith, c.if-near-len.true, c.len.ensures)) c.index-leaf.ensures in
    record { some = omega (arith, ap (λ (rows : List Row). length rows) (c.deref.ensures ∙ there), c.requires.leaves.some c.args.near (omega (arith, c.if-near-len.true, c.len.ensures))) }

pub returns-then-spans-clause-at : goal.returns-then-spans-clause-at
returns-then-spans-clause-at c =
    let there = leaf_there c.args.leaves.now.items c.args.near c.index-leaf.result.now c.index-leaf.result.now (omega (arith, c.if-near-len.true, c.len.ensures)) c.index-leaf.ensures in
    in_leaf c.args.leaves.now.items c.requires.leaves c.args.near (omega (arith, c.if-near-len.true, c.len.ensures)) c.args.stamp c.deref.result.now (c.deref.ensures ∙ there) c.if-spans.ensures.oldest c.if-spans.ensures.newest

pub returns-then-spans-clause-entered : goal.returns-then-spans-clause-entered
returns-then-spans-clause-entered c =
    let there = leaf_there c.args.leaves.now.items c.args.near c.index-leaf.result.now c.index-leaf.result.now (omega (arith, c.if-near-len.true, c.len.ensures)) c.index-leaf.ensures in
    omega (arith, c.enter.ensures.counted, ap bits c.len-then-spans.ensures.exact, ap (λ (rows : List Row). bits (length rows)) (c.deref-then-spans.ensures ∙ there))

pub returns-then-spans-clause-visits : goal.returns-then-spans-clause-visits
returns-then-spans-clause-visits c = omega (arith, c.enter.ensures.counted, bits-le 5 c.len-then-spans.result (omega (arith, c.len-then-spans.ensures.most, c.len-then-spans.ensures.exact)))
