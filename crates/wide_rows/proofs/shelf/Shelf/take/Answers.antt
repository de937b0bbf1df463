use Rattle.std.specs.Prelude.{All}
use Rattle.std.specs.Box.{with_value}
use Rattle.std.specs.declared.alloc.Global.{Global}
use Rattle.std.proofs.Common.{◌≡◌, [], List, Some, None, Box, length, ap, sym, subst, ◌∙◌, arith}
use Rattle.std.proofs.lemmas.List.{length-set}
use Rattle.std.proofs.lemmas.List.Elements.{All-push}
use Rattle.market_types.specs.Rows.{row_at, without}
use Rattle.market_types.specs.Bits.{bits}
use Rattle.market_types.specs.declared.row.Row.{Row}
use Rattle.wide_rows.specs.Shelves.{Shelved, leaf_at}
use Rattle.wide_rows.proofs.OfShelves.{leaf_there}
use Rattle.wide_rows.proofs.WayDown.{way_down, down_at}
use Rattle.wide_rows.proofs.Edits.{was_put, found_here, rows_without, change_take}
use Rattle.wide_rows.proofs.TwoStoreys.{beyond, known}
use Rattle.wide_rows.proofs.Fewer.{leaves_alone, leaves_merged, kept_merged, rows_merged, newest_pair, leaves_same, indexed_same}
use Rattle.wide_rows.proofs.shelf.Shelf.take.Goals as goal

pub invariant_of-self : goal.invariant_of-self
invariant_of-self c =
    let m = c.self.inside.storeys in
    let xs = c.self.inside.leaves.items in
    let h = c.self.invariant.leaves in
    let d = c.self.invariant.known.indexed (omega (arith, c.requires.some, ap (λ (v : Shelved). v.leaves) c.self.view_is)) in
    let s = c.args.stamp in
    let i = c.find-place.result in
    let at = c.find-place.ensures.at in
    let there = at.there in
    let b = with_value c.index_mut.result.now c.take.new.self in
    let leaf : c.deref_mut.result.now ≡ leaf_at xs i = c.deref_mut.ensures.value ∙ leaf_there xs i c.index_mut.result.now c.index_mut.result.now there c.index_mut.ensures.value in
    let is : b.value ≡ without s (leaf_at xs i) = c.take.ensures.rows ∙ ap (without s) leaf in
    let missing : row_at s (leaf_at xs i) ≡ None = ap (row_at s) (sym leaf) ∙ sym c.in_err-row.ensures.taken in
    record { leaves = leaves_same xs h i b there s is missing; known = known _ _ _ (indexed_same xs h i b there s is missing m d); room = c.self.invariant.room }

pub returns-in_err-row-clause-taken : goal.returns-in_err-row-clause-taken
returns-in_err-row-clause-taken c =
    let m = c.self.inside.storeys in
    let xs = c.self.inside.leaves.items in
    let h = c.self.invariant.leaves in
    let d = c.self.invariant.known.indexed (omega (arith, c.requires.some, ap (λ (v : Shelved). v.leaves) c.self.view_is)) in
    let s = c.args.stamp in
    let i = c.find-place.result in
    let at = c.find-place.ensures.at in
    let there = at.there in
    let b = with_value c.index_mut.result.now c.take.new.self in
    let leaf : c.deref_mut.result.now ≡ leaf_at xs i = c.deref_mut.ensures.value ∙ leaf_there xs i c.index_mut.result.now c.index_mut.result.now there c.index_mut.ensures.value in
    let is : b.value ≡ without s (leaf_at xs i) = c.take.ensures.rows ∙ ap (without s) leaf in
    let missing : row_at s (leaf_at xs i) ≡ None = ap (row_at s) (sym leaf) ∙ sym c.in_err-row.ensures.taken in
    c.from_residual.ensures ∙ sym missing ∙ sym (found_here xs h i b there s at) ∙ ap (λ (v : Shelved). row_at s v.rows) c.self.view_is

pub returns-in_err-row-clause-rows : goal.returns-in_err-row-clause-rows
returns-in_err-row-clause-rows c =
    let m = c.self.inside.storeys in
    let xs = c.self.inside.leaves.items in
    let h = c.self.invariant.leaves in
    let d = c.self.invariant.known.indexed (omega (arith, c.requires.some, ap (λ (v : Shelved). v.leaves) c.self.view_is)) in
    let s = c.args.stamp in
    let i = c.find-place.result in
    let at = c.find-place.ensures.at in
    let there = at.there in
    let b = with_value c.index_mut.result.now c.take.new.self in
    let leaf : c.deref_mut.result.now ≡ leaf_at xs i = c.deref_mut.ensures.value ∙ leaf_there xs i c.index_mut.result.now c.index_mut.result.now there c.index_mut.ensures.value in
    let is : b.value ≡ without s (leaf_at xs i) = c.take.ensures.rows ∙ ap (without s) leaf in
    rows_without xs h i b there s at is ∙ ap (λ (v : Shelved). without s v.rows) c.self.view_is

pub returns-in_err-row-clause-least : goal.returns-in_err-row-clause-least
returns-in_err-row-clause-least c =
    omega (
      arith,
      c.find-place.ensures.counted,
      down_at c.self.inside.storeys c.self.inside.leaves.items c.self.invariant.leaves (c.self.invariant.known.indexed (omega (arith, c.requires.some, ap (λ (v : Shelved). v.leaves) c.self.view_is))) (omega (arith, c.requires.some, ap (λ (v : Shelved). v.leaves) c.self.view_is)) c.find-place.result c.find-place.ensures.at.there,
    )

pub returns-in-Some-clause-least : goal.returns-in-Some-clause-least
returns-in-Some-clause-least c =
    omega (
      arith,
      c.find-place.ensures.counted,
      down_at c.self.inside.storeys c.self.inside.leaves.items c.self.invariant.leaves (c.self.invariant.known.indexed (omega (arith, c.requires.some, ap (λ (v : Shelved). v.leaves) c.self.view_is))) (omega (arith, c.requires.some, ap (λ (v : Shelved). v.leaves) c.self.view_is)) c.find-place.result c.find-place.ensures.at.there,
    )

pub returns-in-None-clause-least : goal.returns-in-None-clause-least
returns-in-None-clause-least c =
    omega (
      arith,
      c.find-place.ensures.counted,
      down_at c.self.inside.storeys c.self.inside.leaves.items c.self.invariant.leaves (c.self.invariant.known.indexed (omega (arith, c.requires.some, ap (λ (v : Shelved). v.leaves) c.self.view_is))) (omega (arith, c.requires.some, ap (λ (v : Shelved). v.leaves) c.self.view_is)) c.find-place.result c.find-place.ensures.at.there,
    )

pub returns-in_err-row-clause-visits : goal.returns-in_err-row-clause-visits
returns-in_err-row-clause-visits c =
    omega (
      arith,
      c.find-place.ensures.visits,
      way_down c.self.inside.storeys c.self.inside.leaves.items c.self.invariant.leaves (c.self.invariant.known.indexed (omega (arith, c.requires.some, ap (λ (v : Shelved). v.leaves) c.self.view_is))) (omega (arith, c.requires.some, ap (λ (v : Shelved). v.leaves) c.self.view_is)),
      ap (λ (v : Shelved). bits (length v.rows)) c.self.view_is,
    )

pub returns-in-Some-clause-visits : goal.returns-in-Some-clause-visits
returns-in-Some-clause-visits c =
    omega (
      arith,
      c.find-place.ensures.visits,
      way_down c.self.inside.storeys c.self.inside.leaves.items c.self.invariant.leaves (c.self.invariant.known.indexed (omega (arith, c.requires.some, ap (λ (v : Shelved). v.leaves) c.self.view_is))) (omega (arith, c.requires.some, ap (λ (v : Shelved). v.leaves) c.self.view_is)),
      ap (λ (v : Shelved). bits (length v.rows)) c.self.view_is,
    )

pub returns-in-None-clause-visits : goal.returns-in-None-clause-visits
returns-in-None-clause-visits c =
    omega (
      arith,
      c.find-place.ensures.visits,
      way_down c.self.inside.storeys c.self.inside.leaves.items c.self.invariant.leaves (c.self.invariant.known.indexed (omega (arith, c.requires.some, ap (λ (v : Shelved). v.leaves) c.self.view_is))) (omega (arith, c.requires.some, ap (λ (v : Shelved). v.leaves) c.self.view_is)),
      ap (λ (v : Shelved). bits (length v.rows)) c.self.view_is,
    )

pub merge-gone-requires-clause-newest : goal.merge-gone-requires-clause-newest
merge-gone-requires-clause-newest c =
    let m = c.self.inside.storeys in
    let xs = c.self.inside.leaves.items in
    let h = c.self.invariant.leaves in
    let d = c.self.invariant.known.indexed (omega (arith, c.requires.some, ap (λ (v : Shelved). v.leaves) c.self.view_is)) in
    let s = c.args.stamp in
    let i = c.find-place.result in
    let at = c.find-place.ensures.at in
    let there = at.there in
    let b = with_value c.index_mut.result.now c.take.new.self in
    let leaf : c.deref_mut.result.now ≡ leaf_at xs i = c.deref_mut.ensures.value ∙ leaf_there xs i c.index_mut.result.now c.index_mut.result.now there c.index_mut.ensures.value in
    let is : b.value ≡ without s (leaf_at xs i) = c.take.ensures.rows ∙ ap (without s) leaf in
    let x = c.in_ok-row.row in
    let found : row_at s (leaf_at xs i) ≡ Some x = ap (row_at s) (sym leaf) ∙ sym c.in_ok-row.ensures.taken in
    let p = c.in-Some.first in
    let fit = c.in-Some.ensures in
    newest_pair xs h i b there s at is x found p fit

pub rebuild-requires-clause-leaves : goal.rebuild-requires-clause-leaves
rebuild-requires-clause-leaves c =
    let m = c.self.inside.storeys in
    let xs = c.self.inside.leaves.items in
    let h = c.self.invariant.leaves in
    let d = c.self.invariant.known.indexed (omega (arith, c.requires.some, ap (λ (v : Shelved). v.leaves) c.self.view_is)) in
    let s = c.args.stamp in
    let i = c.find-place.result in
    let at = c.find-place.ensures.at in
    let there = at.there in
    let b = with_value c.index_mut.result.now c.take.new.self in
    let leaf : c.deref_mut.result.now ≡ leaf_at xs i = c.deref_mut.ensures.value ∙ leaf_there xs i c.index_mut.result.now c.index_mut.result.now there c.index_mut.ensures.value in
    let is : b.value ≡ without s (leaf_at xs i) = c.take.ensures.rows ∙ ap (without s) leaf in
    let x = c.in_ok-row.row in
    let found : row_at s (leaf_at xs i) ≡ Some x = ap (row_at s) (sym leaf) ∙ sym c.in_ok-row.ensures.taken in
    let p = c.in-Some.first in
    let fit = c.in-Some.ensures in
    let ts = c.merge-gone.new.leaves.items in
    let g = c.merge-gone.ensures in
    leaves_merged xs h i b there s at is x found p fit ts g.len g.before g.here g.behind

pub rebuild-requires-clause-kept : goal.rebuild-requires-clause-kept
rebuild-requires-clause-kept c =
    let m = c.self.inside.storeys in
    let xs = c.self.inside.leaves.items in
    let h = c.self.invariant.leaves in
    let d = c.self.invariant.known.indexed (omega (arith, c.requires.some, ap (λ (v : Shelved). v.leaves) c.self.view_is)) in
    let s = c.args.stamp in
    let i = c.find-place.result in
    let at = c.find-place.ensures.at in
    let there = at.there in
    let b = with_value c.index_mut.result.now c.take.new.self in
    let leaf : c.deref_mut.result.now ≡ leaf_at xs i = c.deref_mut.ensures.value ∙ leaf_there xs i c.index_mut.result.now c.index_mut.result.now there c.index_mut.ensures.value in
    let is : b.value ≡ without s (leaf_at xs i) = c.take.ensures.rows ∙ ap (without s) leaf in
    let x = c.in_ok-row.row in
    let found : row_at s (leaf_at xs i) ≡ Some x = ap (row_at s) (sym leaf) ∙ sym c.in_ok-row.ensures.taken in
    let p = c.in-Some.first in
    let fit = c.in-Some.ensures in
    let ts = c.merge-gone.new.leaves.items in
    let g = c.merge-gone.ensures in
    kept_merged xs h i b there s at is x found p fit ts g.len g.before g.here g.behind m d

pub rebuild-requires-clause-beyond : goal.rebuild-requires-clause-beyond
rebuild-requires-clause-beyond c = λ g l q.
    let xs = c.self.inside.leaves.items in
    let b = with_value c.index_mut.result.now c.take.new.self in
    let ts = c.merge-gone.new.leaves.items in
    beyond c.self.inside.storeys (leaf_at xs) (leaf_at ts) (length xs) (length ts) g (c.self.invariant.known.indexed (omega (arith, c.requires.some, ap (λ (v : Shelved). v.leaves) c.self.view_is))) (omega (arith, c.merge-gone.ensures.len, length-set xs c.find-place.result b)) l q

pub invariant_of-self-in-Some : goal.invariant_of-self-in-Some
invariant_of-self-in-Some c =
    let m = c.self.inside.storeys in
    let xs = c.self.inside.leaves.items in
    let h = c.self.invariant.leaves in
    let d = c.self.invariant.known.indexed (omega (arith, c.requires.some, ap (λ (v : Shelved). v.leaves) c.self.view_is)) in
    let s = c.args.stamp in
    let i = c.find-place.result in
    let at = c.find-place.ensures.at in
    let there = at.there in
    let b = with_value c.index_mut.result.now c.take.new.self in
    let leaf : c.deref_mut.result.now ≡ leaf_at xs i = c.deref_mut.ensures.value ∙ leaf_there xs i c.index_mut.result.now c.index_mut.result.now there c.index_mut.ensures.value in
    let is : b.value ≡ without s (leaf_at xs i) = c.take.ensures.rows ∙ ap (without s) leaf in
    let x = c.in_ok-row.row in
    let found : row_at s (leaf_at xs i) ≡ Some x = ap (row_at s) (sym leaf) ∙ sym c.in_ok-row.ensures.taken in
    let p = c.in-Some.first in
    let fit = c.in-Some.ensures in
    let ts = c.merge-gone.new.leaves.items in
    let g = c.merge-gone.ensures in
    record { leaves = leaves_merged xs h i b there s at is x found p fit ts g.len g.before g.here g.behind; known = c.rebuild.ensures; room = g.capacity ∙ c.self.invariant.room }

pub note-requires : goal.note-requires
note-requires c =
    let m = c.self.inside.storeys in
    let xs = c.self.inside.leaves.items in
    let h = c.self.invariant.leaves in
    let d = c.self.invariant.known.indexed (omega (arith, c.requires.some, ap (λ (v : Shelved). v.leaves) c.self.view_is)) in
    let s = c.args.stamp in
    let i = c.find-place.result in
    let at = c.find-place.ensures.at in
    let there = at.there in
    let b = with_value c.index_mut.result.now c.take.new.self in
    let leaf : c.deref_mut.result.now ≡ leaf_at xs i = c.deref_mut.ensures.value ∙ leaf_there xs i c.index_mut.result.now c.index_mut.result.now there c.index_mut.ensures.value in
    let is : b.value ≡ without s (leaf_at xs i) = c.take.ensures.rows ∙ ap (without s) leaf in
    let x = c.in_ok-row.row in
    let found : row_at s (leaf_at xs i) ≡ Some x = ap (row_at s) (sym leaf) ∙ sym c.in_ok-row.ensures.taken in
    record { was = was_put xs h i b there m d (leaves_alone xs h i b there s at is c.in-None.ensures) _ (change_take xs h i b there s at is x found) }

pub invariant_of-self-in-None : goal.invariant_of-self-in-None
invariant_of-self-in-None c =
    let m = c.self.inside.storeys in
    let xs = c.self.inside.leaves.items in
    let h = c.self.invariant.leaves in
    let d = c.self.invariant.known.indexed (omega (arith, c.requires.some, ap (λ (v : Shelved). v.leaves) c.self.view_is)) in
    let s = c.args.stamp in
    let i = c.find-place.result in
    let at = c.find-place.ensures.at in
    let there = at.there in
    let b = with_value c.index_mut.result.now c.take.new.self in
    let leaf : c.deref_mut.result.now ≡ leaf_at xs i = c.deref_mut.ensures.value ∙ leaf_there xs i c.index_mut.result.now c.index_mut.result.now there c.index_mut.ensures.value in
    let is : b.value ≡ without s (leaf_at xs i) = c.take.ensures.rows ∙ ap (without s) leaf in
    record { leaves = leaves_alone xs h i b there s at is c.in-None.ensures; known = known _ _ _ c.note.ensures; room = c.self.invariant.room }

pub returns-in-Some-clause-taken : goal.returns-in-Some-clause-taken
returns-in-Some-clause-taken c =
    let m = c.self.inside.storeys in
    let xs = c.self.inside.leaves.items in
    let h = c.self.invariant.leaves in
    let d = c.self.invariant.known.indexed (omega (arith, c.requires.some, ap (λ (v : Shelved). v.leaves) c.self.view_is)) in
    let s = c.args.stamp in
    let i = c.find-place.result in
    let at = c.find-place.ensures.at in
    let there = at.there in
    let b = with_value c.index_mut.result.now c.take.new.self in
    let leaf : c.deref_mut.result.now ≡ leaf_at xs i = c.deref_mut.ensures.value ∙ leaf_there xs i c.index_mut.result.now c.index_mut.result.now there c.index_mut.ensures.value in
    let is : b.value ≡ without s (leaf_at xs i) = c.take.ensures.rows ∙ ap (without s) leaf in
    let x = c.in_ok-row.row in
    let found : row_at s (leaf_at xs i) ≡ Some x = ap (row_at s) (sym leaf) ∙ sym c.in_ok-row.ensures.taken in
    sym found ∙ sym (found_here xs h i b there s at) ∙ ap (λ (v : Shelved). row_at s v.rows) c.self.view_is

pub returns-in-None-clause-taken : goal.returns-in-None-clause-taken
returns-in-None-clause-taken c =
    let m = c.self.inside.storeys in
    let xs = c.self.inside.leaves.items in
    let h = c.self.invariant.leaves in
    let d = c.self.invariant.known.indexed (omega (arith, c.requires.some, ap (λ (v : Shelved). v.leaves) c.self.view_is)) in
    let s = c.args.stamp in
    let i = c.find-place.result in
    let at = c.find-place.ensures.at in
    let there = at.there in
    let b = with_value c.index_mut.result.now c.take.new.self in
    let leaf : c.deref_mut.result.now ≡ leaf_at xs i = c.deref_mut.ensures.value ∙ leaf_there xs i c.index_mut.result.now c.index_mut.result.now there c.index_mut.ensures.value in
    let is : b.value ≡ without s (leaf_at xs i) = c.take.ensures.rows ∙ ap (without s) leaf in
    let x = c.in_ok-row.row in
    let found : row_at s (leaf_at xs i) ≡ Some x = ap (row_at s) (sym leaf) ∙ sym c.in_ok-row.ensures.taken in
    sym found ∙ sym (found_here xs h i b there s at) ∙ ap (λ (v : Shelved). row_at s v.rows) c.self.view_is

pub returns-in-Some-clause-rows : goal.returns-in-Some-clause-rows
returns-in-Some-clause-rows c =
    let m = c.self.inside.storeys in
    let xs = c.self.inside.leaves.items in
    let h = c.self.invariant.leaves in
    let d = c.self.invariant.known.indexed (omega (arith, c.requires.some, ap (λ (v : Shelved). v.leaves) c.self.view_is)) in
    let s = c.args.stamp in
    let i = c.find-place.result in
    let at = c.find-place.ensures.at in
    let there = at.there in
    let b = with_value c.index_mut.result.now c.take.new.self in
    let leaf : c.deref_mut.result.now ≡ leaf_at xs i = c.deref_mut.ensures.value ∙ leaf_there xs i c.index_mut.result.now c.index_mut.result.now there c.index_mut.ensures.value in
    let is : b.value ≡ without s (leaf_at xs i) = c.take.ensures.rows ∙ ap (without s) leaf in
    let x = c.in_ok-row.row in
    let found : row_at s (leaf_at xs i) ≡ Some x = ap (row_at s) (sym leaf) ∙ sym c.in_ok-row.ensures.taken in
    let p = c.in-Some.first in
    let fit = c.in-Some.ensures in
    let ts = c.merge-gone.new.leaves.items in
    let g = c.merge-gone.ensures in
    rows_merged xs h i b there s at is x found p fit ts g.len g.before g.here g.behind ∙ ap (λ (v : Shelved). without s v.rows) c.self.view_is

pub returns-in-None-clause-rows : goal.returns-in-None-clause-rows
returns-in-None-clause-rows c =
    let m = c.self.inside.storeys in
    let xs = c.self.inside.leaves.items in
    let h = c.self.invariant.leaves in
    let d = c.self.invariant.known.indexed (omega (arith, c.requires.some, ap (λ (v : Shelved). v.leaves) c.self.view_is)) in
    let s = c.args.stamp in
    let i = c.find-place.result in
    let at = c.find-place.ensures.at in
    let there = at.there in
    let b = with_value c.index_mut.result.now c.take.new.self in
    let leaf : c.deref_mut.result.now ≡ leaf_at xs i = c.deref_mut.ensures.value ∙ leaf_there xs i c.index_mut.result.now c.index_mut.result.now there c.index_mut.ensures.value in
    let is : b.value ≡ without s (leaf_at xs i) = c.take.ensures.rows ∙ ap (without s) leaf in
    rows_without xs h i b there s at is ∙ ap (λ (v : Shelved). without s v.rows) c.self.view_is

pub returns-in-Some-clause-blank : goal.returns-in-Some-clause-blank
returns-in-Some-clause-blank c =
    subst (All (λ (leaf : Box (List Row) Global). leaf.value ≡ [])) (sym c.push_reserved.ensures.items)
    (All-push (λ (leaf : Box (List Row) Global). leaf.value ≡ []) c.args.spare.now.items c.merge-gone.result c.requires.blank c.merge-gone.ensures.blank)
