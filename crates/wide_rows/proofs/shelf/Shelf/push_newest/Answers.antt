use Rattle.std.specs.Prelude.{All}
use Rattle.std.specs.Box.{with_value}
use Rattle.std.specs.declared.alloc.Global.{Global}
use Rattle.std.proofs.Common.{◌≡◌, ◌+◌, ◌-◌, ◌/◌, ◌<◌, ◌≤◌, [], ◌∷◌, ℕ, List, Some, Box, length, set, ap, sym, subst, ◌∙◌, arith}
use Rattle.std.proofs.lemmas.List.Elements.{All-pop}
use Rattle.market_types.specs.Bits.{bits}
use Rattle.market_types.specs.declared.row.Row.{Row}
use Rattle.wide_rows.specs.Shelves.{Shelved, rows_of, leaf_at, AreLeaves}
use Rattle.wide_rows.specs.Storeys.{WasIndexed, IsBlock, block_at}
use Rattle.wide_rows.proofs.OfShelves.{leaf_there, few_leaves}
use Rattle.wide_rows.proofs.Edits.{was_put}
use Rattle.wide_rows.proofs.TwoStoreys.{beyond, known}
use Rattle.wide_rows.proofs.Grown.{newest_in_last, visits_more, rows_grown, leaves_grown, change_grown, rows_behind, leaves_behind, kept_behind}
use Rattle.wide_rows.proofs.shelf.Shelf.push_newest.Goals as goal

pub push_newest-requires-clause-newest : goal.push_newest-requires-clause-newest
push_newest-requires-clause-newest c =
    let m = c.self.inside.storeys in
    let xs = c.self.inside.leaves.items in
    let h = c.self.invariant.leaves in
    let d = c.self.invariant.known.indexed (omega (arith, c.requires.some, ap (λ (v : Shelved). v.leaves) c.self.view_is)) in
    let x = c.args.row.now in
    let newest : All (λ (row : Row). row.stamp < x.stamp) (rows_of xs) = subst (λ (v : Shelved). All (λ (row : Row). row.stamp < x.stamp) v.rows) (sym c.self.view_is) c.requires.newest in
    let low = c.requires.request in
    let room : length (rows_of xs) < 1024 = omega (arith, c.requires.room, ap (λ (v : Shelved). length v.rows) c.self.view_is) in
    let some : 0 < length xs = omega (arith, c.requires.some, ap (λ (v : Shelved). v.leaves) c.self.view_is) in
    let last : c.len-last.result ≡ length xs = c.len-last.ensures ∙ c.self.inside.leaves.ok.0 in
    let at : c.len-last.result - 1 ≡ length xs - 1 = ap (λ k. k - 1) last in
    let leaf = c.deref_mut.ensures.value ∙ leaf_there xs (c.len-last.result - 1) c.index_mut.result.now c.index_mut.result.now (omega (arith, some, last)) c.index_mut.ensures.value ∙ ap (leaf_at xs) at in
    subst (All (λ (row : Row). row.stamp < x.stamp)) (sym leaf) (newest_in_last xs h x newest low room some)

pub note-requires : goal.note-requires
note-requires c =
    let m = c.self.inside.storeys in
    let xs = c.self.inside.leaves.items in
    let h = c.self.invariant.leaves in
    let d = c.self.invariant.known.indexed (omega (arith, c.requires.some, ap (λ (v : Shelved). v.leaves) c.self.view_is)) in
    let x = c.args.row.now in
    let newest : All (λ (row : Row). row.stamp < x.stamp) (rows_of xs) = subst (λ (v : Shelved). All (λ (row : Row). row.stamp < x.stamp) v.rows) (sym c.self.view_is) c.requires.newest in
    let low = c.requires.request in
    let room : length (rows_of xs) < 1024 = omega (arith, c.requires.room, ap (λ (v : Shelved). length v.rows) c.self.view_is) in
    let some : 0 < length xs = omega (arith, c.requires.some, ap (λ (v : Shelved). v.leaves) c.self.view_is) in
    let last : c.len-last.result ≡ length xs = c.len-last.ensures ∙ c.self.inside.leaves.ok.0 in
    let at : c.len-last.result - 1 ≡ length xs - 1 = ap (λ k. k - 1) last in
    let leaf = c.deref_mut.ensures.value ∙ leaf_there xs (c.len-last.result - 1) c.index_mut.result.now c.index_mut.result.now (omega (arith, some, last)) c.index_mut.ensures.value ∙ ap (leaf_at xs) at in
    let b = with_value c.index_mut.result.now c.push_newest.new.self in
    let is : b.value ≡ x ∷ leaf_at xs (length xs - 1) = c.push_newest.ensures ∙ ap (λ l. x ∷ l) leaf in
    record {
      was = subst (λ (i : ℕ). WasIndexed m (leaf_at (set xs i b)) (length (set xs i b)) i (record { less = 0; more = x.request; gone = 0; come = 1 })) (sym at)
          (was_put xs h (length xs - 1) b (omega (arith, some)) m d (leaves_grown xs h x newest low room some b is) _ (change_grown xs h x newest low room some b is));
    }

pub invariant_of-self : goal.invariant_of-self
invariant_of-self c =
    let m = c.self.inside.storeys in
    let xs = c.self.inside.leaves.items in
    let h = c.self.invariant.leaves in
    let d = c.self.invariant.known.indexed (omega (arith, c.requires.some, ap (λ (v : Shelved). v.leaves) c.self.view_is)) in
    let x = c.args.row.now in
    let newest : All (λ (row : Row). row.stamp < x.stamp) (rows_of xs) = subst (λ (v : Shelved). All (λ (row : Row). row.stamp < x.stamp) v.rows) (sym c.self.view_is) c.requires.newest in
    let low = c.requires.request in
    let room : length (rows_of xs) < 1024 = omega (arith, c.requires.room, ap (λ (v : Shelved). length v.rows) c.self.view_is) in
    let some : 0 < length xs = omega (arith, c.requires.some, ap (λ (v : Shelved). v.leaves) c.self.view_is) in
    let last : c.len-last.result ≡ length xs = c.len-last.ensures ∙ c.self.inside.leaves.ok.0 in
    let at : c.len-last.result - 1 ≡ length xs - 1 = ap (λ k. k - 1) last in
    let leaf = c.deref_mut.ensures.value ∙ leaf_there xs (c.len-last.result - 1) c.index_mut.result.now c.index_mut.result.now (omega (arith, some, last)) c.index_mut.ensures.value ∙ ap (leaf_at xs) at in
    let b = with_value c.index_mut.result.now c.push_newest.new.self in
    let is : b.value ≡ x ∷ leaf_at xs (length xs - 1) = c.push_newest.ensures ∙ ap (λ l. x ∷ l) leaf in
    record {
      leaves = subst (λ (i : ℕ). AreLeaves (set xs i b)) (sym at) (leaves_grown xs h x newest low room some b is);
      known = known _ _ _ c.note.ensures;
      room = c.self.invariant.room;
    }

pub push_reserved-requires : goal.push_reserved-requires
push_reserved-requires c =
    let m = c.self.inside.storeys in
    let xs = c.self.inside.leaves.items in
    let h = c.self.invariant.leaves in
    let d = c.self.invariant.known.indexed (omega (arith, c.requires.some, ap (λ (v : Shelved). v.leaves) c.self.view_is)) in
    let x = c.args.row.now in
    let newest : All (λ (row : Row). row.stamp < x.stamp) (rows_of xs) = subst (λ (v : Shelved). All (λ (row : Row). row.stamp < x.stamp) v.rows) (sym c.self.view_is) c.requires.newest in
    let low = c.requires.request in
    let room : length (rows_of xs) < 1024 = omega (arith, c.requires.room, ap (λ (v : Shelved). length v.rows) c.self.view_is) in
    let some : 0 < length xs = omega (arith, c.requires.some, ap (λ (v : Shelved). v.leaves) c.self.view_is) in
    let last : c.len-last.result ≡ length xs = c.len-last.ensures ∙ c.self.inside.leaves.ok.0 in
    let at : c.len-last.result - 1 ≡ length xs - 1 = ap (λ k. k - 1) last in
    omega (arith, c.self.inside.leaves.ok.0, (few_leaves xs h).1, c.self.invariant.room)

pub rebuild-requires-clause-leaves : goal.rebuild-requires-clause-leaves
rebuild-requires-clause-leaves c =
    let m = c.self.inside.storeys in
    let xs = c.self.inside.leaves.items in
    let h = c.self.invariant.leaves in
    let d = c.self.invariant.known.indexed (omega (arith, c.requires.some, ap (λ (v : Shelved). v.leaves) c.self.view_is)) in
    let x = c.args.row.now in
    let newest : All (λ (row : Row). row.stamp < x.stamp) (rows_of xs) = subst (λ (v : Shelved). All (λ (row : Row). row.stamp < x.stamp) v.rows) (sym c.self.view_is) c.requires.newest in
    let low = c.requires.request in
    let room : length (rows_of xs) < 1024 = omega (arith, c.requires.room, ap (λ (v : Shelved). length v.rows) c.self.view_is) in
    let some : 0 < length xs = omega (arith, c.requires.some, ap (λ (v : Shelved). v.leaves) c.self.view_is) in
    let last : c.len-last.result ≡ length xs = c.len-last.ensures ∙ c.self.inside.leaves.ok.0 in
    let at : c.len-last.result - 1 ≡ length xs - 1 = ap (λ k. k - 1) last in
    let count : c.len-count.result ≡ length (leaf_at xs (length xs - 1)) =
    c.len-count.ensures.exact ∙ ap (λ (rows : List Row). length rows)
    (c.deref.ensures ∙ leaf_there xs (c.len-last.result - 1) c.index.result.now c.index.result.now (omega (arith, some, last)) c.index.ensures ∙ ap (leaf_at xs) at) in
    let b = with_value c.in-Some.leaf c.push_newest-in-Some.new.self in
    let blank = (All-pop (λ (leaf : Box (List Row) Global). leaf.value ≡ []) _ _ (Some c.in-Some.leaf) c.in-Some.ensures.items c.requires.blank).1 in
    let is : b.value ≡ x ∷ [] = c.push_newest-in-Some.ensures ∙ ap (λ l. x ∷ l) (c.deref_mut-in-Some.ensures.value ∙ blank) in
    let full : 16 ≤ length (leaf_at xs (length xs - 1)) = omega (arith, count, c.if-count-lt-MOST_ROWS.false) in
    subst AreLeaves (sym c.push_reserved.ensures.items) (leaves_behind xs h x newest low room some b is full)

pub rebuild-requires-clause-kept : goal.rebuild-requires-clause-kept
rebuild-requires-clause-kept c =
    let m = c.self.inside.storeys in
    let xs = c.self.inside.leaves.items in
    let h = c.self.invariant.leaves in
    let d = c.self.invariant.known.indexed (omega (arith, c.requires.some, ap (λ (v : Shelved). v.leaves) c.self.view_is)) in
    let x = c.args.row.now in
    let newest : All (λ (row : Row). row.stamp < x.stamp) (rows_of xs) = subst (λ (v : Shelved). All (λ (row : Row). row.stamp < x.stamp) v.rows) (sym c.self.view_is) c.requires.newest in
    let low = c.requires.request in
    let room : length (rows_of xs) < 1024 = omega (arith, c.requires.room, ap (λ (v : Shelved). length v.rows) c.self.view_is) in
    let some : 0 < length xs = omega (arith, c.requires.some, ap (λ (v : Shelved). v.leaves) c.self.view_is) in
    let last : c.len-last.result ≡ length xs = c.len-last.ensures ∙ c.self.inside.leaves.ok.0 in
    let at : c.len-last.result - 1 ≡ length xs - 1 = ap (λ k. k - 1) last in
    let count : c.len-count.result ≡ length (leaf_at xs (length xs - 1)) =
    c.len-count.ensures.exact ∙ ap (λ (rows : List Row). length rows)
    (c.deref.ensures ∙ leaf_there xs (c.len-last.result - 1) c.index.result.now c.index.result.now (omega (arith, some, last)) c.index.ensures ∙ ap (leaf_at xs) at) in
    let b = with_value c.in-Some.leaf c.push_newest-in-Some.new.self in
    let blank = (All-pop (λ (leaf : Box (List Row) Global). leaf.value ≡ []) _ _ (Some c.in-Some.leaf) c.in-Some.ensures.items c.requires.blank).1 in
    let is : b.value ≡ x ∷ [] = c.push_newest-in-Some.ensures ∙ ap (λ l. x ∷ l) (c.deref_mut-in-Some.ensures.value ∙ blank) in
    let full : 16 ≤ length (leaf_at xs (length xs - 1)) = omega (arith, count, c.if-count-lt-MOST_ROWS.false) in
    λ g l. subst (λ (ys : List (Box (List Row) Global)). IsBlock (block_at m.blocks g) (leaf_at ys) (length ys) g) (sym c.push_reserved.ensures.items)
    (kept_behind xs h x newest low room some b is full m d ((c.len-last.result - 1 + 1) / 16) g (omega (arith, last, some)) l)

pub rebuild-requires-clause-beyond : goal.rebuild-requires-clause-beyond
rebuild-requires-clause-beyond c = λ g l q.
    let longer = c.push_reserved.ensures.len in
    beyond c.self.inside.storeys (leaf_at c.self.inside.leaves.items) (leaf_at c.push_reserved.new.self.items) (length c.self.inside.leaves.items) (length c.push_reserved.new.self.items) g (c.self.invariant.known.indexed (omega (arith, c.requires.some, ap (λ (v : Shelved). v.leaves) c.self.view_is)))
    (omega (arith, longer, c.self.inside.leaves.ok.0, c.push_reserved.new.self.ok.0)) l q

pub invariant_of-self-in-Some : goal.invariant_of-self-in-Some
invariant_of-self-in-Some c =
    let m = c.self.inside.storeys in
    let xs = c.self.inside.leaves.items in
    let h = c.self.invariant.leaves in
    let d = c.self.invariant.known.indexed (omega (arith, c.requires.some, ap (λ (v : Shelved). v.leaves) c.self.view_is)) in
    let x = c.args.row.now in
    let newest : All (λ (row : Row). row.stamp < x.stamp) (rows_of xs) = subst (λ (v : Shelved). All (λ (row : Row). row.stamp < x.stamp) v.rows) (sym c.self.view_is) c.requires.newest in
    let low = c.requires.request in
    let room : length (rows_of xs) < 1024 = omega (arith, c.requires.room, ap (λ (v : Shelved). length v.rows) c.self.view_is) in
    let some : 0 < length xs = omega (arith, c.requires.some, ap (λ (v : Shelved). v.leaves) c.self.view_is) in
    let last : c.len-last.result ≡ length xs = c.len-last.ensures ∙ c.self.inside.leaves.ok.0 in
    let at : c.len-last.result - 1 ≡ length xs - 1 = ap (λ k. k - 1) last in
    let count : c.len-count.result ≡ length (leaf_at xs (length xs - 1)) =
    c.len-count.ensures.exact ∙ ap (λ (rows : List Row). length rows)
    (c.deref.ensures ∙ leaf_there xs (c.len-last.result - 1) c.index.result.now c.index.result.now (omega (arith, some, last)) c.index.ensures ∙ ap (leaf_at xs) at) in
    let b = with_value c.in-Some.leaf c.push_newest-in-Some.new.self in
    let blank = (All-pop (λ (leaf : Box (List Row) Global). leaf.value ≡ []) _ _ (Some c.in-Some.leaf) c.in-Some.ensures.items c.requires.blank).1 in
    let is : b.value ≡ x ∷ [] = c.push_newest-in-Some.ensures ∙ ap (λ l. x ∷ l) (c.deref_mut-in-Some.ensures.value ∙ blank) in
    let full : 16 ≤ length (leaf_at xs (length xs - 1)) = omega (arith, count, c.if-count-lt-MOST_ROWS.false) in
    record { leaves = subst AreLeaves (sym c.push_reserved.ensures.items) (leaves_behind xs h x newest low room some b is full); known = c.rebuild.ensures; room = c.push_reserved.ensures.capacity ∙ c.self.invariant.room }

pub returns-then-count-lt-MOST_ROWS-clause-rows : goal.returns-then-count-lt-MOST_ROWS-clause-rows
returns-then-count-lt-MOST_ROWS-clause-rows c =
    let m = c.self.inside.storeys in
    let xs = c.self.inside.leaves.items in
    let h = c.self.invariant.leaves in
    let d = c.self.invariant.known.indexed (omega (arith, c.requires.some, ap (λ (v : Shelved). v.leaves) c.self.view_is)) in
    let x = c.args.row.now in
    let newest : All (λ (row : Row). row.stamp < x.stamp) (rows_of xs) = subst (λ (v : Shelved). All (λ (row : Row). row.stamp < x.stamp) v.rows) (sym c.self.view_is) c.requires.newest in
    let low = c.requires.request in
    let room : length (rows_of xs) < 1024 = omega (arith, c.requires.room, ap (λ (v : Shelved). length v.rows) c.self.view_is) in
    let some : 0 < length xs = omega (arith, c.requires.some, ap (λ (v : Shelved). v.leaves) c.self.view_is) in
    let last : c.len-last.result ≡ length xs = c.len-last.ensures ∙ c.self.inside.leaves.ok.0 in
    let at : c.len-last.result - 1 ≡ length xs - 1 = ap (λ k. k - 1) last in
    let leaf = c.deref_mut.ensures.value ∙ leaf_there xs (c.len-last.result - 1) c.index_mut.result.now c.index_mut.result.now (omega (arith, some, last)) c.index_mut.ensures.value ∙ ap (leaf_at xs) at in
    let b = with_value c.index_mut.result.now c.push_newest.new.self in
    let is : b.value ≡ x ∷ leaf_at xs (length xs - 1) = c.push_newest.ensures ∙ ap (λ l. x ∷ l) leaf in
    ap (λ i. rows_of (set xs i b)) at ∙ rows_grown xs h x newest low room some b is ∙ ap (λ (v : Shelved). x ∷ v.rows) c.self.view_is

pub returns-then-count-lt-MOST_ROWS-clause-visits : goal.returns-then-count-lt-MOST_ROWS-clause-visits
returns-then-count-lt-MOST_ROWS-clause-visits c =
    let m = c.self.inside.storeys in
    let xs = c.self.inside.leaves.items in
    let h = c.self.invariant.leaves in
    let d = c.self.invariant.known.indexed (omega (arith, c.requires.some, ap (λ (v : Shelved). v.leaves) c.self.view_is)) in
    let x = c.args.row.now in
    let newest : All (λ (row : Row). row.stamp < x.stamp) (rows_of xs) = subst (λ (v : Shelved). All (λ (row : Row). row.stamp < x.stamp) v.rows) (sym c.self.view_is) c.requires.newest in
    let low = c.requires.request in
    let room : length (rows_of xs) < 1024 = omega (arith, c.requires.room, ap (λ (v : Shelved). length v.rows) c.self.view_is) in
    let some : 0 < length xs = omega (arith, c.requires.some, ap (λ (v : Shelved). v.leaves) c.self.view_is) in
    let last : c.len-last.result ≡ length xs = c.len-last.ensures ∙ c.self.inside.leaves.ok.0 in
    let at : c.len-last.result - 1 ≡ length xs - 1 = ap (λ k. k - 1) last in
    let count : c.len-count.result ≡ length (leaf_at xs (length xs - 1)) =
    c.len-count.ensures.exact ∙ ap (λ (rows : List Row). length rows)
    (c.deref.ensures ∙ leaf_there xs (c.len-last.result - 1) c.index.result.now c.index.result.now (omega (arith, some, last)) c.index.ensures ∙ ap (leaf_at xs) at) in
    omega (arith, c.enter.ensures.counted, visits_more xs h x newest low room some c.len-count.result count, ap (λ (v : Shelved). bits (length v.rows)) c.self.view_is)

pub returns-in-Some-clause-rows : goal.returns-in-Some-clause-rows
returns-in-Some-clause-rows c =
    let m = c.self.inside.storeys in
    let xs = c.self.inside.leaves.items in
    let h = c.self.invariant.leaves in
    let d = c.self.invariant.known.indexed (omega (arith, c.requires.some, ap (λ (v : Shelved). v.leaves) c.self.view_is)) in
    let x = c.args.row.now in
    let newest : All (λ (row : Row). row.stamp < x.stamp) (rows_of xs) = subst (λ (v : Shelved). All (λ (row : Row). row.stamp < x.stamp) v.rows) (sym c.self.view_is) c.requires.newest in
    let low = c.requires.request in
    let room : length (rows_of xs) < 1024 = omega (arith, c.requires.room, ap (λ (v : Shelved). length v.rows) c.self.view_is) in
    let some : 0 < length xs = omega (arith, c.requires.some, ap (λ (v : Shelved). v.leaves) c.self.view_is) in
    let last : c.len-last.result ≡ length xs = c.len-last.ensures ∙ c.self.inside.leaves.ok.0 in
    let at : c.len-last.result - 1 ≡ length xs - 1 = ap (λ k. k - 1) last in
    let count : c.len-count.result ≡ length (leaf_at xs (length xs - 1)) =
    c.len-count.ensures.exact ∙ ap (λ (rows : List Row). length rows)
    (c.deref.ensures ∙ leaf_there xs (c.len-last.result - 1) c.index.result.now c.index.result.now (omega (arith, some, last)) c.index.ensures ∙ ap (leaf_at xs) at) in
    let b = with_value c.in-Some.leaf c.push_newest-in-Some.new.self in
    let blank = (All-pop (λ (leaf : Box (List Row) Global). leaf.value ≡ []) _ _ (Some c.in-Some.leaf) c.in-Some.ensures.items c.requires.blank).1 in
    let is : b.value ≡ x ∷ [] = c.push_newest-in-Some.ensures ∙ ap (λ l. x ∷ l) (c.deref_mut-in-Some.ensures.value ∙ blank) in
    let full : 16 ≤ length (leaf_at xs (length xs - 1)) = omega (arith, count, c.if-count-lt-MOST_ROWS.false) in
    ap rows_of c.push_reserved.ensures.items ∙ rows_behind xs h x newest low room some b is full ∙ ap (λ (v : Shelved). x ∷ v.rows) c.self.view_is
