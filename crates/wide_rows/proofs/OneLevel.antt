-- The rows of one level after a change.
use Rattle.std.specs.Prelude.{All, IfSome}
use Rattle.std.proofs.Common.{◌≡◌, ℕ, suc, ◌+◌, ◌*◌, ◌<◌, ◌≤◌, Bool, true, false, cond, not, eqb, List, [], ◌∷◌, length, refl, sym, ap, subst, arith, Option, Some, None}
use Rattle.std.proofs.lemmas.Bool.{eqb-true, ne_eqb}
use Rattle.std.proofs.lemmas.List.Elements.{All-cons, All-weaker}
use Rattle.market_types.specs.declared.row.Row.{Row}
use Rattle.market_types.specs.Rows.{IsNewestFirst, IsAbsent, HasLowRequests, requests, row_at, without, set_row}
use Rattle.market_types.proofs.RowOrder.{newest-tail, newest-cons, under_here, absent_above}
use Rattle.market_types.proofs.RowReadings.{requests-cons, filter-all}
use Rattle.market_types.proofs.RowChanges.{set-newest, set-low, set-length, without-newest, without-low, without-length, row-all}
use Rattle.market_types.proofs.RowReadings.{requests-le}
use Rattle.wide_rows.specs.Leveled.{Leveled, HasFewBoxes, IsLevel}

-- one row set
pub level_set : (v w : Leveled) (s q : ℕ) (m : Bool) → IsLevel v → q ≤ 65535 → w ≡ record v { rows = set_row s q m v.rows } → IsLevel w
level_set v w s q m h low e =
    let long = set-length s q m v.rows in
    subst IsLevel (sym e)
    (record {
      newest_first = set-newest s q m v.rows h.newest_first;
      low = set-low s q m v.rows low h.low;
      room = rw long h.room;
      boxes = record { leaves = rw long h.boxes.leaves; shelves = rw long h.boxes.shelves; shelved = h.boxes.shelved };
    })

-- one row more
pub level_pushed : (v w : Leveled) (x : Row) → IsLevel v → All (λ y. y.stamp < x.stamp) v.rows → x.request ≤ 65535 → length v.rows < 1024 → w.rows ≡ x ∷ v.rows → HasFewBoxes w → IsLevel w
level_pushed v w x h newest low room e few = record {
  newest_first = rw e (newest-cons x v.rows newest h.newest_first);
  low = rw e (All-cons (λ (row : Row). row.request ≤ 65535) x v.rows low h.low);
  room = rw e (omega arith);
  boxes = few;
}

-- one row less
pub level_without : (v w : Leveled) (s : ℕ) → IsLevel v → w.rows ≡ without s v.rows → HasFewBoxes w → IsLevel w
level_without v w s h e few = record {
  newest_first = rw e (without-newest s v.rows h.newest_first);
  low = rw e (without-low s v.rows h.low);
  room = rw e (omega (arith, without-length s v.rows, h.room));
  boxes = few;
}

-- what the rows of a level ask for
pub total_fits : (v : Leveled) → IsLevel v → requests v.rows ≤ 1024 * 65535
total_fits v h = omega (arith, requests-le v.rows h.low, h.room)

-- where no row has the stamp all stay
without-none : (s : ℕ) (t : List Row) → IsAbsent s t → without s t ≡ t
without-none s t a =
    filter-all (λ y. not (eqb y.stamp s)) t (All-weaker (λ y. y.stamp ≡ s → ⊥) (λ y. not (eqb y.stamp s) ≡ true) (λ y g. ap not (ne_eqb y.stamp s g)) t a)

-- the rows behind the one that has the stamp stay
without_older : (s : ℕ) (y : Row) (t : List Row) → IsNewestFirst (y ∷ t) → y.stamp ≡ s → without s t ≡ t
without_older s y t d e = without-none s t (absent_above s t (under_here [] y t d s e))

same-row : {x y : Row} → Some y ≡ Some x → y ≡ x
same-row {x} {y} e = cc

-- what is left asks for what the row does not that went
pub without_requests : (s : ℕ) (t : List Row) (x : Row) → IsNewestFirst t → row_at s t ≡ Some x → requests (without s t) + x.request ≡ requests t
without_requests s [] x d e = absurd (cc)
without_requests s (y ∷ t) x d e =
    elim (eqb y.stamp s) as (λ b. eqb y.stamp s ≡ b → cond b (Some y) (row_at s t) ≡ Some x → requests (cond (not b) (y ∷ without s t) (without s t)) + x.request ≡ requests (y ∷ t)) [
      | true ↦ λ h g.
          let rest = without_older s y t d (eqb-true y.stamp s h) in
          let same : y.request ≡ x.request = ap (λ z. z.request) (same-row g) in
          rw rest (omega (arith, requests-cons y t))
      | false ↦ λ h g. omega (arith, requests-cons y t, requests-cons y (without s t), without_requests s t x (newest-tail y t d) g)
    ] refl e

-- and is one row less
pub without_length : (s : ℕ) (t : List Row) (x : Row) → IsNewestFirst t → row_at s t ≡ Some x → length (without s t) + 1 ≡ length t
without_length s [] x d e = absurd (cc)
without_length s (y ∷ t) x d e =
    elim (eqb y.stamp s) as (λ b. eqb y.stamp s ≡ b → cond b (Some y) (row_at s t) ≡ Some x → length (cond (not b) (y ∷ without s t) (without s t)) + 1 ≡ suc (length t)) [
      | true ↦ λ h g. let rest = without_older s y t d (eqb-true y.stamp s h) in rw rest (omega arith)
      | false ↦ λ h g. omega (arith, without_length s t x (newest-tail y t d) g)
    ] refl e

-- at most one row goes
pub without_most : (s : ℕ) (t : List Row) → IsNewestFirst t → length t ≤ length (without s t) + 1
without_most s [] d = omega arith
without_most s (y ∷ t) d =
    elim (eqb y.stamp s) as (λ b. eqb y.stamp s ≡ b → suc (length t) ≤ length (cond (not b) (y ∷ without s t) (without s t)) + 1) [
      | true ↦ λ h. let rest = without_older s y t d (eqb-true y.stamp s h) in rw rest (omega arith)
      | false ↦ λ h. omega (arith, without_most s t (newest-tail y t d))
    ] refl

-- where no row has the stamp all stay
pub without_missing : (s : ℕ) (t : List Row) → row_at s t ≡ None → without s t ≡ t
without_missing s [] e = refl
without_missing s (y ∷ t) e =
    elim (eqb y.stamp s) as (λ b. cond b (Some y) (row_at s t) ≡ None → cond (not b) (y ∷ without s t) (without s t) ≡ y ∷ t) [
      | true ↦ λ g. absurd (cc)
      | false ↦ λ g. ap (λ l. y ∷ l) (without_missing s t g)
    ] e

-- a row of the level
pub row_low : (s : ℕ) (t : List Row) (x : Row) → HasLowRequests t → row_at s t ≡ Some x → x.request ≤ 65535
row_low s t x low e = subst (λ (o : Option Row). IfSome o (λ row. row.request ≤ 65535)) e (row-all (λ row. row.request ≤ 65535) s t low)
