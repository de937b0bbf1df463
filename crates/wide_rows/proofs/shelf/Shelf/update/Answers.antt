use Rattle.std.specs.Box.{with_value}
use Rattle.std.proofs.Common.{◌≡◌, ◌<◌, Some, length, ap, ◌∙◌, arith}
use Rattle.std.proofs.lemmas.List.{length-set}
use Rattle.market_types.specs.Rows.{row_at, set_row}
use Rattle.market_types.specs.Bits.{bits}
use Rattle.wide_rows.specs.Shelves.{Shelved, rows_of, leaf_at}
use Rattle.wide_rows.proofs.OfShelves.{leaf_there}
use Rattle.wide_rows.proofs.NodeDigits.{bits-some}
use Rattle.wide_rows.proofs.WayDown.{way_down, down_at}
use Rattle.wide_rows.proofs.Edits.{was_put, rows_set, leaves_set, change_set}
use Rattle.wide_rows.proofs.TwoStoreys.{known}
use Rattle.wide_rows.proofs.shelf.Shelf.update.Goals as goal

pub note-requires : goal.note-requires
note-requires c =
    let m = c.self.inside.storeys in
    let xs = c.self.inside.leaves.items in
    let h = c.self.invariant.leaves in
    let d = c.self.invariant.known.indexed (omega (arith, c.requires.some, ap (λ (v : Shelved). v.leaves) c.self.view_is)) in
    let i = c.find_near-place.result in
    let s = c.args.row.now.stamp in
    let q = c.args.request in
    let w = c.args.mandated in
    let at = c.find_near-place.ensures.at in
    let b = with_value c.index_mut.result.now c.set.new.self in
    let is = c.set.ensures ∙ ap (set_row s q w) (c.deref_mut.ensures.value ∙ leaf_there xs i c.index_mut.result.now c.index_mut.result.now at.there c.index_mut.ensures.value) in
    let found : row_at s (rows_of xs) ≡ Some c.args.row.now = ap (λ (v : Shelved). row_at s v.rows) c.self.view_is ∙ c.requires.there in
    record { was = was_put xs h i b at.there m d (leaves_set xs h i b at.there s at q w c.requires.request c.args.row.now found is) _ (change_set xs h i b at.there s at q w c.requires.request c.args.row.now found is) }

pub invariant_of-self : goal.invariant_of-self
invariant_of-self c =
    let m = c.self.inside.storeys in
    let xs = c.self.inside.leaves.items in
    let h = c.self.invariant.leaves in
    let d = c.self.invariant.known.indexed (omega (arith, c.requires.some, ap (λ (v : Shelved). v.leaves) c.self.view_is)) in
    let i = c.find_near-place.result in
    let s = c.args.row.now.stamp in
    let q = c.args.request in
    let w = c.args.mandated in
    let at = c.find_near-place.ensures.at in
    let b = with_value c.index_mut.result.now c.set.new.self in
    let is = c.set.ensures ∙ ap (set_row s q w) (c.deref_mut.ensures.value ∙ leaf_there xs i c.index_mut.result.now c.index_mut.result.now at.there c.index_mut.ensures.value) in
    let found : row_at s (rows_of xs) ≡ Some c.args.row.now = ap (λ (v : Shelved). row_at s v.rows) c.self.view_is ∙ c.requires.there in
    record { leaves = leaves_set xs h i b at.there s at q w c.requires.request c.args.row.now found is; known = known _ _ _ c.note.ensures; room = c.self.invariant.room }

pub returns-clause-changed : goal.returns-clause-changed
returns-clause-changed c =
    let m = c.self.inside.storeys in
    let xs = c.self.inside.leaves.items in
    let h = c.self.invariant.leaves in
    let d = c.self.invariant.known.indexed (omega (arith, c.requires.some, ap (λ (v : Shelved). v.leaves) c.self.view_is)) in
    let i = c.find_near-place.result in
    let s = c.args.row.now.stamp in
    let q = c.args.request in
    let w = c.args.mandated in
    let at = c.find_near-place.ensures.at in
    let b = with_value c.index_mut.result.now c.set.new.self in
    let is = c.set.ensures ∙ ap (set_row s q w) (c.deref_mut.ensures.value ∙ leaf_there xs i c.index_mut.result.now c.index_mut.result.now at.there c.index_mut.ensures.value) in
    let found : row_at s (rows_of xs) ≡ Some c.args.row.now = ap (λ (v : Shelved). row_at s v.rows) c.self.view_is ∙ c.requires.there in
    let rows = rows_set xs h i b at.there s at q w c.requires.request c.args.row.now found is ∙ ap (λ (v : Shelved). set_row s q w v.rows) c.self.view_is in
    let count = length-set xs i b ∙ ap (λ (v : Shelved). v.leaves) c.self.view_is in
    λ k. record { rows = rows k; leaves = count k }

pub returns-clause-entered : goal.returns-clause-entered
returns-clause-entered c =
    let leaves = c.self.inside.leaves.items in
    let k = c.find_near-place.result in
    omega (arith, c.find_near-place.ensures.entered, bits-some (length (leaf_at leaves k)) (c.self.invariant.leaves.some k c.find_near-place.ensures.at.there))

pub returns-clause-visits : goal.returns-clause-visits
returns-clause-visits c =
    omega (
      arith,
      c.find_near-place.ensures.visits,
      way_down c.self.inside.storeys c.self.inside.leaves.items c.self.invariant.leaves (c.self.invariant.known.indexed (omega (arith, c.requires.some, ap (λ (v : Shelved). v.leaves) c.self.view_is))) (omega (arith, c.requires.some, ap (λ (v : Shelved). v.leaves) c.self.view_is)),
      ap (λ (v : Shelved). bits (length v.rows)) c.self.view_is,
    )

pub returns-clause-far : goal.returns-clause-far
returns-clause-far c moved =
    let k = c.find_near-place.result in
    let two : 1 < length c.self.inside.leaves.items = omega (arith, c.requires.some, ap (λ (v : Shelved). v.leaves) c.self.view_is) in
    let down = down_at c.self.inside.storeys c.self.inside.leaves.items c.self.invariant.leaves (c.self.invariant.known.indexed (omega (arith, c.requires.some, ap (λ (v : Shelved). v.leaves) c.self.view_is))) two k c.find_near-place.ensures.at.there in
    omega (arith, c.find_near-place.ensures.far (λ e. moved (e ∙ c.from.ensures)), down)
