use Rattle.std.proofs.Common.{◌≡◌, ◌+◌, ◌*◌, ◌/◌, List, length, min, ap, ◌∙◌, arith}
use Rattle.market_types.specs.declared.row.Row.{Row}
use Rattle.market_types.specs.Bits.{bits}
use Rattle.wide_rows.specs.Shelves.{leaf_at}
use Rattle.wide_rows.specs.Storeys.{block_of, block_rows, lanes, blocks_for}
use Rattle.wide_rows.proofs.Counted.{bits-le, bits-mono}
use Rattle.wide_rows.proofs.OfShelves.{leaf_there}
use Rattle.wide_rows.proofs.TwoStoreys.{found_at}
use Rattle.wide_rows.proofs.storeys.Storeys.find.Goals as goal

pub returns-clause-at : goal.returns-clause-at
returns-clause-at c =
    let r = leaf_at c.args.leaves.now.items in
    let n = length c.args.leaves.now.items in
    let b = c.place-at.result in
    let h = c.requires.indexed in
    let up = c.place-at.ensures (block_rows r) (blocks_for n) h.top in
    let down = c.place.ensures (block_of r b) (lanes n b) (h.blocks b (omega (arith, up.at.there, h.room))).storey in
    found_at c.args.self.now r n h c.args.stamp b c.place.result up down

pub returns-clause-counted : goal.returns-clause-counted
returns-clause-counted c =
    let leaves = c.args.leaves.now.items in
    let r = leaf_at leaves in
    let n = length leaves in
    let b = c.place-at.result in
    let p = c.place.result in
    let h = c.requires.indexed in
    let up = c.place-at.ensures (block_rows r) (blocks_for n) h.top in
    let block = (h.blocks b (omega (arith, up.at.there, h.room))).storey in
    let down = c.place.ensures (block_of r b) (lanes n b) block in
    let here : (b * 16 + p) / 16 ≡ b = omega (arith, down.at.there) in
    let leaf = leaf_there leaves (b * 16 + p) c.index.result.now c.index.result.now (omega (arith, down.at.there)) c.index.ensures in
    omega (
      arith,
      c.enter.ensures.counted,
      c.enter-2.ensures.counted,
      c.enter-3.ensures.counted,
      ap bits c.len.ensures,
      ap bits h.top.len,
      ap bits c.len-2.ensures,
      ap bits block.len,
      ap bits c.len-3.ensures.exact,
      ap (λ (rows : List Row). bits (length rows)) (c.deref.ensures ∙ leaf),
      ap (λ k. bits (lanes n k)) here,
    )

pub returns-clause-visits : goal.returns-clause-visits
returns-clause-visits c =
    let r = leaf_at c.args.leaves.now.items in
    let n = length c.args.leaves.now.items in
    let b = c.place-at.result in
    let h = c.requires.indexed in
    let up = c.place-at.ensures (block_rows r) (blocks_for n) h.top in
    let block = (h.blocks b (omega (arith, up.at.there, h.room))).storey in
    omega (
      arith,
      c.enter.ensures.counted,
      c.enter-2.ensures.counted,
      c.enter-3.ensures.counted,
      ap bits c.len.ensures,
      ap bits h.top.len,
      ap bits c.len-2.ensures,
      ap bits block.len,
      bits-mono (lanes n b) (min 16 n) (omega arith),
      bits-le 5 c.len-3.result (omega (arith, c.len-3.ensures.most, c.len-3.ensures.exact)),
    )
