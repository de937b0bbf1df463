-- What a look at a level's rows tells: of the first, that a stamp is newer than all; of one at an index, that it is the row of its stamp.
use Rattle.std.specs.Prelude.{All, IfSome}
use Rattle.std.specs.List.{slice_get}
use Rattle.std.proofs.Common.{◌≡◌, ℕ, zero, suc, ◌<◌, not, eqb, List, [], ◌∷◌, length, Option, sym, ap, ◌∙◌, subst, arith, inl, inr, Some, None}
use Rattle.std.proofs.lemmas.Bool.{cases_eq}
use Rattle.std.proofs.lemmas.List.{get_or-set_same, get_or-set_other}
use Rattle.std.proofs.lemmas.List.Elements.{All-cons, All-filter, All-weaker}
use Rattle.market_types.specs.declared.row.Row.{Row}
use Rattle.market_types.specs.Rows.{IsNewestFirst, row_at, without}
use Rattle.market_types.proofs.RowOrder.{newest-head, newest-tail}
use Rattle.market_types.proofs.RowChanges.{row_right, row_here}
use Rattle.wide_rows.specs.Leveled.{rows_at, without_at}
use Rattle.wide_rows.proofs.Joined.{all_get}

same-row : {x y : Row} → Some y ≡ Some x → y ≡ x
same-row {x} {y} e = cc

-- where the first row is older than a stamp, all are
pub first-older : (stamp : ℕ) (rows : List Row) (x : Row) → IsNewestFirst rows → slice_get rows 0 ≡ Some x → x.stamp < stamp → All (λ row. row.stamp < stamp) rows
first-older stamp [] x d e l = λ k z h. absurd (omega arith)
first-older stamp (y ∷ rows) x d e l =
    let here : y.stamp < stamp = omega (arith, l, ap (λ (row : Row). row.stamp) (same-row e)) in
    All-cons (λ row. row.stamp < stamp) y rows here
    (All-weaker (λ row. row.stamp < y.stamp) (λ row. row.stamp < stamp) (λ row m. omega (arith, m, here)) rows (newest-head y rows d))

-- the row at an index is that of its stamp
pub row-there : (rows : List Row) (index : ℕ) (x : Row) → IsNewestFirst rows → slice_get rows index ≡ Some x → row_at x.stamp rows ≡ Some x
row-there [] index x d e = cc
row-there (y ∷ rows) zero x d e = row_here x.stamp [] y rows d (ap (λ (row : Row). row.stamp) (same-row e)) ∙ e
row-there (y ∷ rows) (suc index) x d e =
    row_right x.stamp [] y rows d (all_get (λ row. row.stamp < y.stamp) rows index x (newest-head y rows d) e)
    ∙ row-there rows index x (newest-tail y rows d) e

pub if-there : (rows : List Row) (index : ℕ) (found : Option Row) → IsNewestFirst rows → found ≡ slice_get rows index → IfSome found (λ row. row_at row.stamp rows ≡ Some row)
if-there rows index None d e = tt
if-there rows index (Some x) d e = row-there rows index x d (sym e)

-- what holds of all rows of a level holds of them where a row went from this level or another
pub all-without : (P : Row → Type 0) (levels : List (List Row)) (from to stamp : ℕ) → from < length levels → All P (rows_at to levels) → All P (rows_at to (without_at from stamp levels))
all-without P levels from to stamp within a = elim (cases_eq to from) [
  | inl e ↦ subst (λ (k : ℕ). All P (rows_at k (without_at from stamp levels))) (sym e)
      (subst (All P) (sym (get_or-set_same levels from (without stamp (rows_at from levels)) [] within))
      (All-filter (λ row. not (eqb row.stamp stamp)) P (rows_at from levels) (subst (λ (k : ℕ). All P (rows_at k levels)) e a)))
  | inr ne ↦ subst (All P) (sym (get_or-set_other levels from to (without stamp (rows_at from levels)) [] ne)) a
]
