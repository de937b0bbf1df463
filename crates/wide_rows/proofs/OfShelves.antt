-- Leaves side by side as rows by their places.
use Rattle.std.specs.Prelude.{All, IfSome}
use Rattle.std.specs.List.{slice_get}
use Rattle.std.specs.declared.alloc.Global.{Global}
use Rattle.std.proofs.Common.{◌≡◌, ℕ, zero, suc, ◌+◌, ◌-◌, ◌*◌, ◌/◌, ◌<◌, ◌≤◌, List, Option, Some, None, [], ◌∷◌, ◌++◌, length, get_or, Box, refl, sym, ap, subst, ◌∙◌, arith, append_assoc, length-append}
use Rattle.std.proofs.lemmas.List.{append-nil}
use Rattle.market_types.specs.declared.row.Row.{Row}
use Rattle.std.proofs.lemmas.List.Sums.{sum_by-le}
use Rattle.std.proofs.lemmas.List.Elements.{All-weaker}
use Rattle.market_types.specs.Rows.{IsNewestFirst, requests}
use Rattle.market_types.proofs.RowOrder.{newest-front}
use Rattle.wide_rows.specs.Joined.{joined_below, IsAt}
use Rattle.wide_rows.specs.Shelves.{rows_of, leaf_at, AreLeaves}
use Rattle.wide_rows.proofs.Joined.{newest_of_joined, newest-apart, last_least, all_of_joined, all_get}

-- the oldest place apart
joined-oldest : (r : ℕ → List Row) (n : ℕ) → joined_below r (suc n) ≡ joined_below (λ k. r (suc k)) n ++ r zero
joined-oldest r zero = append-nil (r zero)
joined-oldest r (suc n) = ap (λ l. r (suc n) ++ l) (joined-oldest r n) ∙ sym (append_assoc (r (suc n)) (joined_below (λ k. r (suc k)) n) (r zero))

-- the rows of leaves by their places
pub rows_joined : (leaves : List (Box (List Row) Global)) → rows_of leaves ≡ joined_below (leaf_at leaves) (length leaves)
rows_joined [] = refl
rows_joined (leaf ∷ newer) = ap (λ l. l ++ leaf.value) (rows_joined newer) ∙ sym (joined-oldest (leaf_at (leaf ∷ newer)) (length newer))

pub leaf_past : (leaves : List (Box (List Row) Global)) (k : ℕ) → length leaves ≤ k → leaf_at leaves k ≡ []
leaf_past [] k l = refl
leaf_past (leaf ∷ newer) zero l = absurd (omega arith)
leaf_past (leaf ∷ newer) (suc k) l = leaf_past newer k (omega arith)

-- the leaf at an index
pub leaf_there : (leaves : List (Box (List Row) Global)) (k : ℕ) (d b : Box (List Row) Global) → k < length leaves → b ≡ get_or leaves k d → b.value ≡ leaf_at leaves k
leaf_there [] k d b l e = absurd (omega arith)
leaf_there (leaf ∷ newer) zero d b l e = ap (λ (x : Box (List Row) Global). x.value) e
leaf_there (leaf ∷ newer) (suc k) d b l e = leaf_there newer k d b (omega arith) e

-- an index within a list has a row
pub leaf_some : (l : List Row) (i : ℕ) → i < length l → slice_get l i ≡ None → ⊥
leaf_some [] i l e = absurd (omega arith)
leaf_some (x ∷ l) zero h e = cc
leaf_some (x ∷ l) (suc i) h e = leaf_some l i (omega arith) e

-- there is a row
record IsThere (o : Option Row) : Type 0 where
  pub row : Row
  pub is : o ≡ Some row

module _ (leaves : List (Box (List Row) Global)) (h : AreLeaves leaves) where
  abbrev at : ℕ → List Row
  at k = leaf_at leaves k

  -- the rows of a leaf and of all older ones
  pub newest_to : (k : ℕ) → k < length leaves → IsNewestFirst (at k ++ joined_below at k)
  newest_to k l = newest_of_joined at (length leaves) k l (subst IsNewestFirst (rows_joined leaves) h.ordered)

  pub newest_at : (k : ℕ) → k < length leaves → IsNewestFirst (at k)
  newest_at k l = newest-front (at k) (joined_below at k) (newest_to k l)

  -- the last row of a leaf
  module _ (k i : ℕ) (l : k < length leaves) (x : Row) (last : i + 1 ≡ length (at k)) (e : slice_get (at k) i ≡ Some x) where
    pub oldest_least : All (λ row. x.stamp ≤ row.stamp) (at k)
    oldest_least = last_least (at k) i x (newest_at k l) last e

    pub oldest_above : (older : ℕ) → older < k → All (λ row. row.stamp < x.stamp) (at older)
    oldest_above older below = all_of_joined (λ row. row.stamp < x.stamp) at k older below (newest-apart (at k) (joined_below at k) i x (newest_to k l) e)

  -- a stamp that stands between those of a leaf's oldest and its newest row stands in no other leaf
  module _ (k : ℕ) (l : k < length leaves) (s : ℕ) (rows : List Row) (is : rows ≡ at k) (oldest : IfSome (slice_get rows (length rows - 1)) (λ row. row.stamp ≤ s)) (newest : IfSome (slice_get rows 0) (λ row. s ≤ row.stamp)) where
    -- the row at an index that is within a leaf
    row_there : (j i : ℕ) → i < length (at j) → IsThere (slice_get (at j) i)
    row_there j i m = found (slice_get (at j) i) (leaf_some (at j) i m)
      where
        found : (o : Option Row) → (o ≡ None → ⊥) → IsThere o
        found None ne = absurd (ne refl)
        found (Some x) ne = record { row = x; is = refl }

    some_is : (o : Option Row) (x : Row) (P : Row → Type 0) → o ≡ Some x → IfSome o P → P x
    some_is o x P e h = subst (λ (q : Option Row). IfSome q P) e h

    pub in_leaf : IsAt s at (length leaves) k
    in_leaf =
        let last : ℕ = length (at k) - 1 in
        let long : 0 < length (at k) = h.some k l in
        let x = row_there k last (omega (arith, long)) in
        let y = row_there k 0 long in
        let low = some_is (slice_get rows (length rows - 1)) x.row (λ row. row.stamp ≤ s) (ap (λ (q : List Row). slice_get q (length q - 1)) is ∙ x.is) oldest in
        let high = some_is (slice_get rows 0) y.row (λ row. s ≤ row.stamp) (ap (λ (q : List Row). slice_get q 0) is ∙ y.is) newest in
        record {
          there = l;
          older = λ j below. All-weaker (λ (row : Row). row.stamp < x.row.stamp) (λ (row : Row). row.stamp < s) (λ row lower. omega (arith, lower, low)) (at j) (oldest_above k last l x.row (omega (arith, long)) x.is j below);
          newer = λ j above w.
              let z = row_there j (length (at j) - 1) (omega (arith, h.some j w)) in
              let over = all_get (λ (row : Row). row.stamp < z.row.stamp) (at k) 0 y.row (oldest_above j (length (at j) - 1) w z.row (omega (arith, h.some j w)) z.is k above) y.is in
              All-weaker (λ (row : Row). z.row.stamp ≤ row.stamp) (λ (row : Row). s < row.stamp) (λ row higher. omega (arith, higher, over, high)) (at j) (oldest_least j (length (at j) - 1) w z.row (omega (arith, h.some j w)) z.is);
        }

  -- what all ask for
  pub asked_low : requests (joined_below at (length leaves)) ≤ 1024 * 65535
  asked_low = omega (arith, sum_by-le (λ (row : Row). row.request) 65535 (rows_of leaves) h.low, h.few, ap requests (rows_joined leaves))

  pub rows_few : length (joined_below at (length leaves)) ≤ 1024
  rows_few = omega (arith, h.few, ap (λ (rows : List Row). length rows) (rows_joined leaves))

-- two neighbours have 13 rows or more
pub pairs : (r : ℕ → List Row) (n : ℕ) → ((k : ℕ) → suc k < n → 12 < length (r k) + length (r (suc k))) → 13 * (n / 2) ≤ length (joined_below r n)
pairs r zero h = omega arith
pairs r (suc zero) h = omega arith
pairs r (suc (suc n)) h =
    omega (arith, pairs r n (λ k l. h k (omega arith)), h n (omega arith), length-append (r (suc n)) (r n ++ joined_below r n), length-append (r n) (joined_below r n))

-- so a shelf has few leaves
pub few_leaves : (leaves : List (Box (List Row) Global)) → AreLeaves leaves → (13 * (length leaves / 2) ≤ length (rows_of leaves)) × (length leaves ≤ 157)
few_leaves leaves h =
    let t = pairs (leaf_at leaves) (length leaves) h.apart in
    let e = ap (λ (rows : List Row). length rows) (rows_joined leaves) in
    (omega (arith, t, e), omega (arith, t, e, h.few))
