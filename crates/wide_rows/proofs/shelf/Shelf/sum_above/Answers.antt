use Rattle.std.proofs.Common.{◌+◌, ◌*◌, ◌<◌, List, length, ap, ◌∙◌, arith}
use Rattle.market_types.specs.declared.row.Row.{Row}
use Rattle.market_types.specs.Rows.{requests_above}
use Rattle.market_types.specs.Bits.{bits}
use Rattle.wide_rows.specs.Shelves.{Shelved, leaf_at}
use Rattle.wide_rows.specs.Storeys.{block_of, block_rows, lanes, blocks_for}
use Rattle.wide_rows.proofs.OfShelves.{leaf_there}
use Rattle.wide_rows.proofs.WayDown.{top_low, block_low, sums_are, sums_low, place_in, in_leaf, down_to}
use Rattle.wide_rows.proofs.shelf.Shelf.sum_above.Goals as goal

pub sum_above-requires : goal.sum_above-requires
sum_above-requires c =
    let m = c.self.inside.storeys in
    let leaves = c.self.inside.leaves.items in
    let h = c.self.invariant.leaves in
    let d = c.self.invariant.known.indexed (omega (arith, c.requires.some, ap (λ (v : Shelved). v.leaves) c.self.view_is)) in
    top_low m leaves h d

pub sum_above-requires-2 : goal.sum_above-requires-2
sum_above-requires-2 c =
    let m = c.self.inside.storeys in
    let leaves = c.self.inside.leaves.items in
    let h = c.self.invariant.leaves in
    let d = c.self.invariant.known.indexed (omega (arith, c.requires.some, ap (λ (v : Shelved). v.leaves) c.self.view_is)) in
    let r = leaf_at leaves in
    let n = length leaves in
    let up = c.place-at.ensures (block_rows r) (blocks_for n) d.top in
    block_low m leaves h d c.place-at.result up.at.there

pub overflow_add-result : goal.overflow_add-result
overflow_add-result c =
    let m = c.self.inside.storeys in
    let leaves = c.self.inside.leaves.items in
    let h = c.self.invariant.leaves in
    let d = c.self.invariant.known.indexed (omega (arith, c.requires.some, ap (λ (v : Shelved). v.leaves) c.self.view_is)) in
    let r = leaf_at leaves in
    let n = length leaves in
    let b = c.place-at.result in
    let up = c.place-at.ensures (block_rows r) (blocks_for n) d.top in
    let down = c.place.ensures (block_of r b) (lanes n b) (d.blocks b (omega (arith, up.at.there, d.room))).storey in
    record { fits = omega (arith, c.sum_above.ensures, c.sum_above-2.ensures, sums_low m leaves h d c.args.stamp b c.place.result up down) }

pub overflow_add-result-2 : goal.overflow_add-result-2
overflow_add-result-2 c =
    let m = c.self.inside.storeys in
    let leaves = c.self.inside.leaves.items in
    let h = c.self.invariant.leaves in
    let d = c.self.invariant.known.indexed (omega (arith, c.requires.some, ap (λ (v : Shelved). v.leaves) c.self.view_is)) in
    let r = leaf_at leaves in
    let n = length leaves in
    let b = c.place-at.result in
    let up = c.place-at.ensures (block_rows r) (blocks_for n) d.top in
    let down = c.place.ensures (block_of r b) (lanes n b) (d.blocks b (omega (arith, up.at.there, d.room))).storey in
    let leaf = leaf_there leaves (b * 16 + c.place.result) c.index-leaf.result.now c.index-leaf.result.now (place_in m leaves h d c.args.stamp b c.place.result up down) c.index-leaf.ensures in
    record {
      fits = omega (arith, c.sum_above.ensures, c.sum_above-2.ensures, c.sum_above-3.ensures.exact, ap (requests_above c.args.stamp) (c.deref-2.ensures ∙ leaf), sums_low m leaves h d c.args.stamp b c.place.result up down);
    }

pub returns-clause-exact : goal.returns-clause-exact
returns-clause-exact c =
    let m = c.self.inside.storeys in
    let leaves = c.self.inside.leaves.items in
    let h = c.self.invariant.leaves in
    let d = c.self.invariant.known.indexed (omega (arith, c.requires.some, ap (λ (v : Shelved). v.leaves) c.self.view_is)) in
    let r = leaf_at leaves in
    let n = length leaves in
    let b = c.place-at.result in
    let up = c.place-at.ensures (block_rows r) (blocks_for n) d.top in
    let down = c.place.ensures (block_of r b) (lanes n b) (d.blocks b (omega (arith, up.at.there, d.room))).storey in
    let leaf = leaf_there leaves (b * 16 + c.place.result) c.index-leaf.result.now c.index-leaf.result.now (place_in m leaves h d c.args.stamp b c.place.result up down) c.index-leaf.ensures in
    omega (
      arith,
      c.sum_above.ensures,
      c.sum_above-2.ensures,
      c.sum_above-3.ensures.exact,
      ap (requests_above c.args.stamp) (c.deref-2.ensures ∙ leaf),
      sums_are m leaves h d c.args.stamp b c.place.result up down,
      ap (λ (v : Shelved). requests_above c.args.stamp v.rows) c.self.view_is,
    )

pub returns-clause-least : goal.returns-clause-least
returns-clause-least c =
    let m = c.self.inside.storeys in
    let leaves = c.self.inside.leaves.items in
    let h = c.self.invariant.leaves in
    let d = c.self.invariant.known.indexed (omega (arith, c.requires.some, ap (λ (v : Shelved). v.leaves) c.self.view_is)) in
    let r = leaf_at leaves in
    let n = length leaves in
    let b = c.place-at.result in
    let up = c.place-at.ensures (block_rows r) (blocks_for n) d.top in
    let down = c.place.ensures (block_of r b) (lanes n b) (d.blocks b (omega (arith, up.at.there, d.room))).storey in
    let there = place_in m leaves h d c.args.stamp b c.place.result up down in
    let leaf = leaf_there leaves (b * 16 + c.place.result) c.index-leaf.result.now c.index-leaf.result.now there c.index-leaf.ensures in
    let two : 1 < length leaves = omega (arith, c.requires.some, ap (λ (v : Shelved). v.leaves) c.self.view_is) in
    let some : 0 < c.len-3.result = omega (arith, c.len-3.ensures.exact, ap (λ (rows : List Row). length rows) (c.deref.ensures ∙ leaf), h.some (b * 16 + c.place.result) there) in
    omega (
      arith,
      c.enter.ensures.counted,
      c.enter-2.ensures.counted,
      c.enter-3.ensures.counted,
      ap bits c.len.ensures,
      ap bits c.len-2.ensures,
      down_to m leaves h d two b c.len-3.result up.at.there some,
    )

pub returns-clause-visits : goal.returns-clause-visits
returns-clause-visits c =
    let m = c.self.inside.storeys in
    let leaves = c.self.inside.leaves.items in
    let h = c.self.invariant.leaves in
    let d = c.self.invariant.known.indexed (omega (arith, c.requires.some, ap (λ (v : Shelved). v.leaves) c.self.view_is)) in
    let r = leaf_at leaves in
    let n = length leaves in
    let b = c.place-at.result in
    let up = c.place-at.ensures (block_rows r) (blocks_for n) d.top in
    let two : 1 < length leaves = omega (arith, c.requires.some, ap (λ (v : Shelved). v.leaves) c.self.view_is) in
    let rows = ap (λ (v : Shelved). bits (length v.rows)) c.self.view_is in
    omega (
      arith,
      c.enter.ensures.counted,
      c.enter-2.ensures.counted,
      c.enter-3.ensures.counted,
      ap bits c.len.ensures,
      ap bits c.len-2.ensures,
      in_leaf m leaves h d two b c.len-3.result up.at.there (omega (arith, c.len-3.ensures.exact, c.len-3.ensures.most)),
      rows,
    )
