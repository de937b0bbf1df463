-- What is read of a list of rows, told of what stands before a row x, of x, and of what stands after it.
use Rattle.std.specs.List.{slice_get}
use Rattle.std.specs.Prelude.{All, filter}
use Rattle.std.proofs.Common.{◌≡◌, ℕ, zero, suc, ◌+◌, ◌*◌, ◌<◌, ◌≤◌, Bool, true, false, cond, not, eqb, ltb, List, [], ◌∷◌, ◌++◌, length, refl, ap, ◌∙◌, arith, Some, length-append}
use Rattle.std.proofs.lemmas.Bool.{lt-ltb, le-ltb}
use Rattle.std.proofs.lemmas.List.Elements.{All-cons, All-head, All-tail, All-weaker, filter-append}
use Rattle.std.proofs.lemmas.List.Filters.{sum_by-filter_both}
use Rattle.std.proofs.lemmas.List.Sums.{sum_by-append, sum_by-cons}
use Rattle.market_types.specs.declared.row.Row.{Row}
use Rattle.market_types.specs.Rows.{HasLowRequests, IsNewestFirst, requests, requests_above, row_at}
use Rattle.market_types.proofs.RowOrder.{over_all, under_all, over_here, under_here}

-- ---- sums

-- the requests of a row and those after it
pub requests-cons : (x : Row) (t : List Row) → requests (x ∷ t) ≡ x.request + requests t
requests-cons x t = sum_by-cons (λ y. y.request) x t

-- the requests of two lists
pub requests-append : (l m : List Row) → requests (l ++ m) ≡ requests l + requests m
requests-append l m = sum_by-append (λ y. y.request) l m

-- the requests around a row
pub requests-node : (l : List Row) (x : Row) (r : List Row) → requests (l ++ x ∷ r) ≡ requests l + requests r + x.request
requests-node l x r = omega (arith, requests-append l (x ∷ r), requests-cons x r)

-- the rows around a row
pub length-node : (l : List Row) (x : Row) (r : List Row) → length (l ++ x ∷ r) ≡ length l + length r + 1
length-node l x r = omega (arith, length-append l (x ∷ r))

-- low requests add up to at most 65,535 a row
pub requests-le : (l : List Row) → HasLowRequests l → requests l ≤ 65535 * length l
requests-le [] a = omega arith
requests-le (x ∷ l) a = omega (arith, requests-cons x l, All-head (λ y. y.request ≤ 65535) x l a, requests-le l (All-tail (λ y. y.request ≤ 65535) x l a))

-- ---- lists that pass or fail a test as a whole

-- all pass
pub filter-all : (p : Row → Bool) (l : List Row) → All (λ y. p y ≡ true) l → filter p l ≡ l
filter-all p [] a = refl
filter-all p (x ∷ l) a = rw (All-head (λ y. p y ≡ true) x l a) (ap (λ z. x ∷ z) (filter-all p l (All-tail (λ y. p y ≡ true) x l a)))

-- none pass
pub filter-none : (p : Row → Bool) (l : List Row) → All (λ y. p y ≡ false) l → filter p l ≡ []
filter-none p [] a = refl
filter-none p (x ∷ l) a = rw (All-head (λ y. p y ≡ false) x l a) (filter-none p l (All-tail (λ y. p y ≡ false) x l a))

-- ---- the sum above a stamp

-- the sum above a stamp in two lists
above-append : (s : ℕ) (l m : List Row) → requests_above s (l ++ m) ≡ requests_above s l + requests_above s m
above-append s l m =
    ap requests (filter-append (λ y. ltb s y.stamp) l m) ∙ requests-append (filter (λ y. ltb s y.stamp) l) (filter (λ y. ltb s y.stamp) m)

-- where all rows are above it
above-all : (s : ℕ) (l : List Row) → All (λ y. s < y.stamp) l → requests_above s l ≡ requests l
above-all s l a =
    ap requests (filter-all (λ y. ltb s y.stamp) l (All-weaker (λ y. s < y.stamp) (λ y. ltb s y.stamp ≡ true) (λ y g. lt-ltb s y.stamp g) l a))

-- where none is
above-none : (s : ℕ) (l : List Row) → All (λ y. y.stamp ≤ s) l → requests_above s l ≡ 0
above-none s l a =
    ap requests (filter-none (λ y. ltb s y.stamp) l (All-weaker (λ y. y.stamp ≤ s) (λ y. ltb s y.stamp ≡ false) (λ y g. le-ltb s y.stamp g) l a))

-- where the first is
above-over : (s : ℕ) (x : Row) (r : List Row) → s < x.stamp → requests_above s (x ∷ r) ≡ x.request + requests_above s r
above-over s x r h = rw (lt-ltb s x.stamp h) (requests-cons x (filter (λ y. ltb s y.stamp) r))

-- it is no more than the sum of all
pub above-le : (s : ℕ) (l : List Row) → requests_above s l ≤ requests l
above-le s l = omega (arith, sum_by-filter_both (λ y. ltb s y.stamp) (λ y. not (ltb s y.stamp)) (λ y. refl) (λ y. y.request) l)

-- a stamp below x: all of l, x, and what is above it in r
pub above_right : (s : ℕ) (l : List Row) (x : Row) (r : List Row) → IsNewestFirst (l ++ x ∷ r) → s < x.stamp → requests_above s (l ++ x ∷ r) ≡ requests l + x.request + requests_above s r
above_right s l x r d h = omega (arith, above-append s l (x ∷ r), above-all s l (over_all s l x r d h), above-over s x r h)

-- a stamp over x: what is above it in l
pub above_left : (s : ℕ) (l : List Row) (x : Row) (r : List Row) → IsNewestFirst (l ++ x ∷ r) → x.stamp < s → requests_above s (l ++ x ∷ r) ≡ requests_above s l
above_left s l x r d h =
    omega (arith, above-append s l (x ∷ r), above-none s (x ∷ r) (All-weaker (λ y. y.stamp < s) (λ y. y.stamp ≤ s) (λ y g. omega arith) (x ∷ r) (under_all s l x r d h)))

-- that of x: all of l
pub above_here : (s : ℕ) (l : List Row) (x : Row) (r : List Row) → IsNewestFirst (l ++ x ∷ r) → x.stamp ≡ s → requests_above s (l ++ x ∷ r) ≡ requests l
above_here s l x r d h =
    let low = All-cons (λ y. y.stamp ≤ s) x r (omega arith) (All-weaker (λ y. y.stamp < s) (λ y. y.stamp ≤ s) (λ y g. omega arith) r (under_here l x r d s h)) in
    omega (arith, above-append s l (x ∷ r), above-all s l (over_here l x r d s h), above-none s (x ∷ r) low)

-- ---- the row of a stamp

-- what a list has of two rows that are one
pub same-row : {x y : Row} → Some y ≡ Some x → y ≡ x
same-row {x} {y} e = cc

-- a row asks for no more than the list that has it
pub request-within : (s : ℕ) (t : List Row) (x : Row) → row_at s t ≡ Some x → x.request ≤ requests t
request-within s [] x e = absurd (cc)
request-within s (y ∷ t) x e =
    elim (eqb y.stamp s) as (λ b. cond b (Some y) (row_at s t) ≡ Some x → x.request ≤ requests (y ∷ t)) [
      | true ↦ λ g. let same : y.request ≡ x.request = ap (λ z. z.request) (same-row g) in omega (arith, requests-cons y t)
      | false ↦ λ g. omega (arith, requests-cons y t, request-within s t x g)
    ] e

-- ---- the row at a place

-- a place in l
pub get_left : (i : ℕ) (l m : List Row) → i < length l → slice_get (l ++ m) i ≡ slice_get l i
get_left i [] m h = absurd (omega arith)
get_left zero (x ∷ l) m h = refl
get_left (suc i) (x ∷ l) m h = get_left i l m (omega arith)

-- that of x
pub get_here : (i : ℕ) (l : List Row) (x : Row) (r : List Row) → i ≡ length l → slice_get (l ++ x ∷ r) i ≡ Some x
get_here zero [] x r h = refl
get_here (suc i) [] x r h = absurd (omega arith)
get_here zero (y ∷ l) x r h = absurd (omega arith)
get_here (suc i) (y ∷ l) x r h = get_here i l x r (omega arith)

-- a place in r
pub get_right : (i j : ℕ) (l : List Row) (x : Row) (r : List Row) → i ≡ length l + 1 + j → slice_get (l ++ x ∷ r) i ≡ slice_get r j
get_right zero j [] x r h = absurd (omega arith)
get_right (suc i) j [] x r h = ap (λ z. slice_get r z) (let e : i ≡ j = omega arith in e)
get_right zero j (y ∷ l) x r h = absurd (omega arith)
get_right (suc i) j (y ∷ l) x r h = get_right i j l x r (omega arith)
