use Rattle.std.proofs.Common.{◌≡◌, ℕ, zero, suc, ◌+◌, ◌<◌, ◌≤◌, Bool, cond, List, [], ◌∷◌, length, get_or, set, Option, Some, None, refl, ap, subst, arith}
use Rattle.std.specs.Prelude.{slice_get, is_some}
use Rattle.std.specs.List.{count_by}
use Rattle.std.proofs.lemmas.List.Sums.{sum_by-cons, sum_by-set, count_by-le-length}
use Rattle.std.proofs.lemmas.Option.{slice_get_read}

-- ---- the seat at a place

pub at-seat : (seats : List (Option ℕ)) (seat : ℕ) (o : Option ℕ) → slice_get seats seat ≡ Some o → (seat < length seats) × (get_or seats seat o ≡ o)
at-seat [] seat o e = cc
at-seat (x ∷ xs) zero o e = let f : Some x ≡ Some o = e in (omega arith, cc)
at-seat (x ∷ xs) (suc seat) o e = let rest = at-seat xs seat o e in (omega arith, rest.1)

abbrev pub one : (Option ℕ → Bool) → Option ℕ → ℕ
one p o = cond (p o) 1 0

-- another seat placed, or not
pub count-set : (p : Option ℕ → Bool) (seats : List (Option ℕ)) (seat : ℕ) (was now : Option ℕ) → slice_get seats seat ≡ Some was
    → count_by p (set seats seat now) + one p was ≡ count_by p seats + one p now
count-set p seats seat was now e =
    let here = at-seat seats seat was e in
    let whole : count_by p (set seats seat now) + one p (get_or seats seat was) ≡ count_by p seats + one p now = sum_by-set (one p) seats seat now was here.0 in
    let same : one p (get_or seats seat was) ≡ one p was = ap (one p) here.1 in
    omega arith

-- while a seat is not placed, fewer are than there are
pub count-below : (seats : List (Option ℕ)) (seat : ℕ) → slice_get seats seat ≡ Some None → count_by is_some seats < length seats
count-below [] seat e = cc
count-below (x ∷ xs) zero e =
    let f : Some x ≡ Some None = e in
    let none : x ≡ None = cc in
    let parts : count_by is_some (x ∷ xs) ≡ one is_some x + count_by is_some xs = sum_by-cons (one is_some) x xs in
    let zero_here : one is_some x ≡ 0 = ap (one is_some) none in
    omega (arith, count_by-le-length is_some xs)
count-below (x ∷ xs) (suc seat) e =
    let parts : count_by is_some (x ∷ xs) ≡ one is_some x + count_by is_some xs = sum_by-cons (one is_some) x xs in
    let few : one is_some x ≤ 1 = at-most x in
    omega (arith, count-below xs seat e)
  where
    at-most : (o : Option ℕ) → one is_some o ≤ 1
    at-most None = omega arith
    at-most (Some a) = omega arith

-- what was read of a seat
pub read-seat : (seats : List (Option ℕ)) (place seat : ℕ) (o : Option ℕ) → place ≡ seat → seat < length seats → o ≡ get_or seats place o → slice_get seats seat ≡ Some o
read-seat seats place seat o same h e = slice_get_read seats (length seats) seat o refl h (subst (λ i. o ≡ get_or seats i o) same e)
