-- The only row of a leaf, and of a level, under another stamp.
use Rattle.std.specs.Prelude.{IsSome}
use Rattle.std.proofs.Common.{◌≡◌, ◌≢◌, ℕ, ◌<◌, false, true, ◌≤◌, List, [], ◌∷◌, length, set, get_or, refl, sym, ap, subst, ◌∙◌, arith, inl, inr, Option, Some, None}
use Rattle.std.proofs.lemmas.Bool.{cases_eq}
use Rattle.std.proofs.lemmas.List.{length-set, get_or-set_same}
use Rattle.std.proofs.lemmas.List.Elements.{All-head, All-nil, All-cons}
use Rattle.market_types.specs.declared.row.Row.{Row}
use Rattle.market_types.specs.Rows.{IsNewestFirst, HasLowRequests, row_at, without}
use Rattle.market_types.proofs.RowOrder.{newest-cons, newest-nil}
use Rattle.market_types.proofs.RowReadings.{same-row}
use Rattle.market_types.proofs.RowChanges.{row_here, row-none, without_here}
use Rattle.wide_rows.specs.declared.columns.Columns.{Columns}
use Rattle.wide_rows.specs.Leaves.{lane, rows_below, rows_in, IsWide, IsLeaf}
use Rattle.wide_rows.specs.Leveled.{Leveled, IsLevel}
use Rattle.wide_rows.specs.Forms.{leveled}
use Rattle.wide_rows.specs.declared.level.Form.{Form}
use Rattle.wide_rows.specs.declared.level.Form.TheVariants.{Empty, Leaf, Shelf}
use Rattle.wide_rows.proofs.Rows.{length-rows, all-lanes}

-- a row alone is newest first
newest-alone : (row : Row) → IsNewestFirst (row ∷ [])
newest-alone row = newest-cons row [] (All-nil (λ (other : Row). other.stamp < row.stamp)) newest-nil

-- and asks for little where it did
low-alone : (row : Row) → row.request ≤ 65535 → HasLowRequests (row ∷ [])
low-alone row low = All-cons (λ (other : Row). other.request ≤ 65535) row [] low (All-nil (λ (other : Row). other.request ≤ 65535))

found-none : {row : Row} → Some row ≡ None → ⊥
found-none {row} e = cc

no-row : false ≡ true → ⊥
no-row e = cc

-- the only row of a list
pub alone : (rows : List Row) (d : Row) → length rows ≡ 1 → rows ≡ get_or rows 0 d ∷ []
alone [] d one = absurd (omega (arith, one))
alone (row ∷ []) d one = refl
alone (row ∷ next ∷ rows) d one = absurd (omega (arith, one))

-- it has the stamp that is found, and nothing is left without it
pub found-alone : (s : ℕ) (rows : List Row) (row : Row) → length rows ≡ 1 → row_at s rows ≡ Some row → (rows ≡ row ∷ []) × (without s rows ≡ [])
found-alone s [] row one there = absurd (omega (arith, one))
found-alone s (x ∷ []) row one there = elim (cases_eq x.stamp s) [
  | inl e ↦ (ap (λ (r : Row). r ∷ []) (same-row (sym (row_here s [] x [] (newest-alone x) e) ∙ there)), without_here s [] x [] (newest-alone x) e)
  | inr ne ↦ absurd (found-none (sym there ∙ row-none s (x ∷ []) (All-cons (λ (r : Row). r.stamp ≢ s) x [] ne (All-nil (λ (r : Row). r.stamp ≢ s)))))
]
found-alone s (x ∷ y ∷ rows) row one there = absurd (omega (arith, one))

pub gone-alone : (s : ℕ) (rows : List Row) → length rows ≡ 1 → IsSome (row_at s rows) → without s rows ≡ []
gone-alone s rows one there = go (row_at s rows) refl there
  where
    go : (o : Option Row) → row_at s rows ≡ o → IsSome o → without s rows ≡ []
    go (Some row) e some = (found-alone s rows row one e).1
    go None e some = absurd (no-row some)

-- ---- a leaf

-- columns with another stamp in the first lane
abbrev restamped : Columns → ℕ → Columns
restamped columns stamp = record columns { stamps = set columns.stamps 0 stamp }

-- columns of one row hold that of the first lane
only : (d : Columns) → d.count ≡ 1 → rows_in d ≡ lane d 0 ∷ []
only d one = ap (rows_below (lane d)) one

count-alone : (d : Columns) → length (rows_in d) ≡ 1 → d.count ≡ 1
count-alone d one = omega (arith, length-rows (lane d) d.count, one)

lane-restamped : (d : Columns) (s : ℕ) → IsWide d → lane (restamped d s) 0 ≡ record (lane d 0) { stamp = s }
lane-restamped d s wide = ap (λ t. record (lane d 0) { stamp = t }) (get_or-set_same d.stamps 0 s 0 (omega (arith, wide.stamps)))

pub restamped_leaf : (d : Columns) (s : ℕ) → IsLeaf d → length (rows_in d) ≡ 1 → IsLeaf (restamped d s)
restamped_leaf d s h one =
    let count = count-alone d one in
    let rows : rows_in (restamped d s) ≡ lane (restamped d s) 0 ∷ [] = only (restamped d s) count in
    let low : (lane d 0).request ≤ 65535 = all-lanes (λ (row : Row). row.request ≤ 65535) (lane d) d.count h.low 0 (omega (arith, count)) in
    record {
      tidy = record {
        wide = record { stamps = length-set d.stamps 0 s ∙ h.tidy.wide.stamps; requests = h.tidy.wide.requests; arenas = h.tidy.wide.arenas };
        room = h.tidy.room;
        requests = h.tidy.requests;
        mandates = h.tidy.mandates;
      };
      ordered = subst IsNewestFirst (sym rows) (newest-alone (lane (restamped d s) 0));
      low = subst HasLowRequests (sym rows) (low-alone (lane (restamped d s) 0) low);
    }

pub restamped_rows : (d : Columns) (s : ℕ) (row : Row) → IsLeaf d → rows_in d ≡ row ∷ [] → rows_in (restamped d s) ≡ record row { stamp = s } ∷ []
restamped_rows d s row h is =
    let count = count-alone d (ap length is) in
    let here : lane d 0 ≡ row = ap (λ rows. get_or rows 0 row) (sym (only d count) ∙ is) in
    only (restamped d s) count ∙ ap (λ (r : Row). r ∷ []) (lane-restamped d s h.tidy.wide ∙ ap (λ (r : Row). record r { stamp = s }) here)

-- ---- a level

-- a level of one row is a leaf
pub is-leaf : (form : Form) → IsLevel (leveled form) → length (leveled form).rows ≡ 1 → ((leaf : _) → form ≡ Leaf leaf → ⊥) → ⊥
is-leaf Empty h one other = omega (arith, one)
is-leaf (Leaf leaf) h one other = other leaf refl
is-leaf (Shelf shelf) h one other = omega (arith, one, h.boxes.shelves)

pub restamped_level : (v w : Leveled) (s : ℕ) (row : Row) → IsLevel v → v.rows ≡ row ∷ [] → w ≡ record v { rows = record row { stamp = s } ∷ [] } → IsLevel w
restamped_level v w s row h is e =
    let long : length v.rows ≡ 1 = ap length is in
    let low : HasLowRequests (row ∷ []) = subst HasLowRequests is h.low in
    subst IsLevel (sym e)
    (record {
      newest_first = newest-alone (record row { stamp = s });
      low = low-alone (record row { stamp = s }) (low-request row low);
      room = omega arith;
      boxes = record { leaves = omega (arith, h.boxes.leaves, long); shelves = omega (arith, h.boxes.shelves, long); shelved = h.boxes.shelved };
    })
  where
    low-request : (row : Row) → HasLowRequests (row ∷ []) → row.request ≤ 65535
    low-request row low = All-head (λ (other : Row). other.request ≤ 65535) row [] low
