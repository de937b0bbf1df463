-- What a node says of its rows: how many are mandated, and which is the first.
use Rattle.std.proofs.Common.{◌≡◌, ℕ, ◌+◌, ◌<◌, ◌≤◌, Bool, true, false, cond, List, [], ◌∷◌, ◌++◌, length, refl, arith, Some}
use Rattle.std.proofs.lemmas.List.Sums.{sum_by-append, sum_by-cons}
use Rattle.market_types.specs.declared.row.Row.{Row}
use Rattle.market_types.specs.Rows.{first_mandated}
use Rattle.prefix_tree.specs.Nodes.{mandates, one_if}

-- ---- sums

-- the mandates of a row and those after it
pub mandates-cons : (x : Row) (t : List Row) → mandates (x ∷ t) ≡ one_if x.mandated + mandates t
mandates-cons x t = sum_by-cons (λ y. cond y.mandated 1 0) x t

-- the mandates around a row
pub mandates-node : (l : List Row) (x : Row) (r : List Row) → mandates (l ++ x ∷ r) ≡ mandates l + mandates r + one_if x.mandated
mandates-node l x r = omega (arith, sum_by-append (λ y. cond y.mandated 1 0) l (x ∷ r), mandates-cons x r)

-- a row is one mandated row at most
one_if-le : (b : Bool) → one_if b ≤ 1
one_if-le true = omega arith
one_if-le false = omega arith

-- no more rows are mandated than there are
pub mandates-le : (l : List Row) → mandates l ≤ length l
mandates-le [] = omega arith
mandates-le (x ∷ l) = omega (arith, mandates-cons x l, mandates-le l, one_if-le x.mandated)

-- ---- the first mandated row

-- no mandate in the first list: it is in the second
pub first-here : (l m : List Row) → mandates l ≡ 0 → first_mandated (l ++ m) ≡ first_mandated m
first-here [] m e = refl
first-here (x ∷ l) m e =
    elim x.mandated as (λ b. one_if b + mandates l ≡ 0 → cond b (Some x) (first_mandated (l ++ m)) ≡ first_mandated m) [
      | true ↦ λ h. absurd (omega arith)
      | false ↦ λ h. first-here l m (omega arith)
    ] (omega (arith, mandates-cons x l))

-- some mandate in the first list: it is there
pub first-left : (l m : List Row) → 0 < mandates l → first_mandated (l ++ m) ≡ first_mandated l
first-left [] m h = absurd (omega arith)
first-left (x ∷ l) m e =
    elim x.mandated as (λ b. 0 < one_if b + mandates l → cond b (Some x) (first_mandated (l ++ m)) ≡ cond b (Some x) (first_mandated l)) [
      | true ↦ λ h. refl
      | false ↦ λ h. first-left l m (omega arith)
    ] (omega (arith, mandates-cons x l))
