use Rattle.std.specs.List.{slice_get}
use Rattle.std.proofs.Common.{◌+◌, ◌*◌, ◌<◌, List, length, ap, sym, ◌∙◌, arith}
use Rattle.market_types.specs.declared.row.Row.{Row}
use Rattle.market_types.specs.Bits.{bits}
use Rattle.wide_rows.specs.Shelves.{Shelved, leaf_at}
use Rattle.wide_rows.specs.Storeys.{block_of, block_rows, lanes, blocks_for}
use Rattle.wide_rows.proofs.OfShelves.{leaf_there}
use Rattle.wide_rows.proofs.WayDown.{no_row, row_in, no_row_in, in_top, in_block, in_leaf, down_to, if_some}
use Rattle.wide_rows.proofs.shelf.Shelf.row.Goals as goal

pub returns-in_err-at-clause-exact : goal.returns-in_err-at-clause-exact
returns-in_err-at-clause-exact c =
    let m = c.self.inside.storeys in
    let leaves = c.self.inside.leaves.items in
    let h = c.self.invariant.leaves in
    let d = c.self.invariant.known.indexed (omega (arith, c.requires.some, ap (λ (v : Shelved). v.leaves) c.self.view_is)) in
    let r = leaf_at leaves in
    let n = length leaves in
    let none = c.in_err-at.ensures (block_rows r) (blocks_for n) d.top in
    c.from_residual.ensures ∙ sym (no_row m leaves h d c.args.index none) ∙ ap (λ (v : Shelved). slice_get v.rows c.args.index) c.self.view_is

pub returns-in_err-at-clause-entered : goal.returns-in_err-at-clause-entered
returns-in_err-at-clause-entered c =
    let m = c.self.inside.storeys in
    let leaves = c.self.inside.leaves.items in
    let h = c.self.invariant.leaves in
    let d = c.self.invariant.known.indexed (omega (arith, c.requires.some, ap (λ (v : Shelved). v.leaves) c.self.view_is)) in
    let two : 1 < length leaves = omega (arith, c.requires.some, ap (λ (v : Shelved). v.leaves) c.self.view_is) in
    omega (arith, c.enter.ensures.counted, ap bits c.len.ensures, (in_top m leaves h d two).0)

pub returns-in_err-at-clause-visits : goal.returns-in_err-at-clause-visits
returns-in_err-at-clause-visits c =
    let m = c.self.inside.storeys in
    let leaves = c.self.inside.leaves.items in
    let h = c.self.invariant.leaves in
    let d = c.self.invariant.known.indexed (omega (arith, c.requires.some, ap (λ (v : Shelved). v.leaves) c.self.view_is)) in
    let two : 1 < length leaves = omega (arith, c.requires.some, ap (λ (v : Shelved). v.leaves) c.self.view_is) in
    let rows = ap (λ (v : Shelved). bits (length v.rows)) c.self.view_is in
    omega (arith, c.enter.ensures.counted, ap bits c.len.ensures, (in_top m leaves h d two).1, rows)

pub returns-in_err-place-clause-exact : goal.returns-in_err-place-clause-exact
returns-in_err-place-clause-exact c =
    let m = c.self.inside.storeys in
    let leaves = c.self.inside.leaves.items in
    let h = c.self.invariant.leaves in
    let d = c.self.invariant.known.indexed (omega (arith, c.requires.some, ap (λ (v : Shelved). v.leaves) c.self.view_is)) in
    let r = leaf_at leaves in
    let n = length leaves in
    let up = c.in_ok-at.ensures (block_rows r) (blocks_for n) d.top in
    let inner = c.in_err-place.ensures (block_of r c.in_ok-at.at) (lanes n c.in_ok-at.at) (d.blocks c.in_ok-at.at (omega (arith, up.0, d.room))).storey in
    absurd (no_row_in m leaves h d c.in_ok-at.at c.in_ok-at.rest up.1 inner)

pub returns-in_err-place-clause-visits : goal.returns-in_err-place-clause-visits
returns-in_err-place-clause-visits c =
    let m = c.self.inside.storeys in
    let leaves = c.self.inside.leaves.items in
    let h = c.self.invariant.leaves in
    let d = c.self.invariant.known.indexed (omega (arith, c.requires.some, ap (λ (v : Shelved). v.leaves) c.self.view_is)) in
    let r = leaf_at leaves in
    let n = length leaves in
    let up = c.in_ok-at.ensures (block_rows r) (blocks_for n) d.top in
    let two : 1 < length leaves = omega (arith, c.requires.some, ap (λ (v : Shelved). v.leaves) c.self.view_is) in
    let rows = ap (λ (v : Shelved). bits (length v.rows)) c.self.view_is in
    omega (arith, c.enter.ensures.counted, c.enter-2.ensures.counted, ap bits c.len.ensures, ap bits c.len-2.ensures, in_block m leaves h d two c.in_ok-at.at up.0, rows)

pub returns-clause-exact : goal.returns-clause-exact
returns-clause-exact c =
    let m = c.self.inside.storeys in
    let leaves = c.self.inside.leaves.items in
    let h = c.self.invariant.leaves in
    let d = c.self.invariant.known.indexed (omega (arith, c.requires.some, ap (λ (v : Shelved). v.leaves) c.self.view_is)) in
    let r = leaf_at leaves in
    let n = length leaves in
    let up = c.in_ok-at.ensures (block_rows r) (blocks_for n) d.top in
    let inner = c.in_ok-place.ensures (block_of r c.in_ok-at.at) (lanes n c.in_ok-at.at) (d.blocks c.in_ok-at.at (omega (arith, up.0, d.room))).storey in
    let there = leaf_there leaves (c.in_ok-at.at * 16 + c.in_ok-place.place) c.index-leaf.result.now c.index-leaf.result.now (omega (arith, inner.0)) c.index-leaf.ensures in
    c.row.ensures ∙ ap (λ rows. slice_get rows c.in_ok-place.rest) (c.deref-2.ensures ∙ there)
    ∙ sym (row_in m leaves h d c.args.index c.in_ok-at.at c.in_ok-at.rest c.in_ok-place.place c.in_ok-place.rest up.2 inner.2) ∙ ap (λ (v : Shelved). slice_get v.rows c.args.index) c.self.view_is

pub returns-clause-visits : goal.returns-clause-visits
returns-clause-visits c =
    let m = c.self.inside.storeys in
    let leaves = c.self.inside.leaves.items in
    let h = c.self.invariant.leaves in
    let d = c.self.invariant.known.indexed (omega (arith, c.requires.some, ap (λ (v : Shelved). v.leaves) c.self.view_is)) in
    let r = leaf_at leaves in
    let n = length leaves in
    let up = c.in_ok-at.ensures (block_rows r) (blocks_for n) d.top in
    let two : 1 < length leaves = omega (arith, c.requires.some, ap (λ (v : Shelved). v.leaves) c.self.view_is) in
    let rows = ap (λ (v : Shelved). bits (length v.rows)) c.self.view_is in
    omega (
      arith,
      c.enter.ensures.counted,
      c.enter-2.ensures.counted,
      c.enter-3.ensures.counted,
      ap bits c.len.ensures,
      ap bits c.len-2.ensures,
      in_leaf m leaves h d two c.in_ok-at.at c.len-3.result up.0 (omega (arith, c.len-3.ensures.exact, c.len-3.ensures.most)),
      rows,
    )

pub returns-clause-least : goal.returns-clause-least
returns-clause-least c =
    let m = c.self.inside.storeys in
    let leaves = c.self.inside.leaves.items in
    let h = c.self.invariant.leaves in
    let d = c.self.invariant.known.indexed (omega (arith, c.requires.some, ap (λ (v : Shelved). v.leaves) c.self.view_is)) in
    let r = leaf_at leaves in
    let n = length leaves in
    let b = c.in_ok-at.at in
    let k = b * 16 + c.in_ok-place.place in
    let up = c.in_ok-at.ensures (block_rows r) (blocks_for n) d.top in
    let inner = c.in_ok-place.ensures (block_of r b) (lanes n b) (d.blocks b (omega (arith, up.0, d.room))).storey in
    let there : k < length leaves = omega (arith, inner.0) in
    let leaf = leaf_there leaves k c.index-leaf.result.now c.index-leaf.result.now there c.index-leaf.ensures in
    let two : 1 < length leaves = omega (arith, c.requires.some, ap (λ (v : Shelved). v.leaves) c.self.view_is) in
    let some : 0 < c.len-3.result = omega (arith, c.len-3.ensures.exact, ap (λ (rows : List Row). length rows) (c.deref.ensures ∙ leaf), h.some k there) in
    if_some c.row.result (omega (
      arith,
      c.enter.ensures.counted,
      c.enter-2.ensures.counted,
      c.enter-3.ensures.counted,
      ap bits c.len.ensures,
      ap bits c.len-2.ensures,
      down_to m leaves h d two b c.len-3.result up.0 some,
    ))
