-- Lists of rows with a row set, put in or taken out, told of what stands before a row x, of x, and of what stands after it.
use Rattle.std.specs.Prelude.{All, IfSome}
use Rattle.std.proofs.Common.{◌≡◌, ℕ, suc, ◌+◌, ◌<◌, ◌≤◌, Bool, true, false, cond, not, eqb, ltb, List, [], ◌∷◌, ◌++◌, length, refl, ap, ◌∙◌, arith, Option, Some, None}
use Rattle.std.proofs.lemmas.Bool.{lt-ltb, le-ltb, eq-eqb, ne_eqb, ltb-true, ltb-false, eqb-true}
use Rattle.std.proofs.lemmas.List.{map-append, length-map}
use Rattle.std.proofs.lemmas.List.Elements.{All-nil, All-cons, All-head, All-tail, All-weaker, All-map, All-filter, filter-append, filter_passes}
use Rattle.std.proofs.lemmas.List.Filters.{sum_by-filter_both, length-filter_both}
use Rattle.std.proofs.lemmas.List.Folds.{map_fixed}
use Rattle.std.proofs.lemmas.List.Kept.{AllPairs-filter}
use Rattle.market_types.specs.declared.row.Row.{Row}
use Rattle.market_types.specs.Rows.{IsNewestFirst, IsAbsent, HasLowRequests, requests, insert_row, without, set_if, set_row, row_at}
use Rattle.market_types.proofs.RowOrder.{newest-nil, newest-head, newest-tail, newest-cons, over_all, under_all, over_here, under_here, absent_below, absent_above}
use Rattle.market_types.proofs.RowReadings.{filter-all, requests-cons, same-row}

-- ---- one row set

-- a row with another stamp stays
pub set_if-other : (s q : ℕ) (m : Bool) (y : Row) → (y.stamp ≡ s → ⊥) → set_if s q m y ≡ y
set_if-other s q m y h = rw (ne_eqb y.stamp s h) refl

-- a row with the stamp is set
pub set_if-same : (s q : ℕ) (m : Bool) (y : Row) → y.stamp ≡ s → set_if s q m y ≡ record y { request = q; mandated = m }
set_if-same s q m y h = rw (eq-eqb y.stamp s h) refl

-- no stamp changes
set_if-stamp : (s q : ℕ) (m : Bool) (y : Row) → (set_if s q m y).stamp ≡ y.stamp
set_if-stamp s q m y = elim (eqb y.stamp s) as (λ b. (cond b (record y { request = q; mandated = m }) y).stamp ≡ y.stamp) [ true ↦ refl | false ↦ refl ]

-- a low request stays low
set_if-low : (s q : ℕ) (m : Bool) (y : Row) → q ≤ 65535 → y.request ≤ 65535 → (set_if s q m y).request ≤ 65535
set_if-low s q m y h g = elim (eqb y.stamp s) as (λ b. (cond b (record y { request = q; mandated = m }) y).request ≤ 65535) [ true ↦ h | false ↦ g ]

-- where no row has the stamp nothing changes
pub set-none : (s q : ℕ) (m : Bool) (t : List Row) → IsAbsent s t → set_row s q m t ≡ t
set-none s q m t a = map_fixed (set_if s q m) t (All-weaker (λ y. y.stamp ≡ s → ⊥) (λ y. set_if s q m y ≡ y) (λ y g. set_if-other s q m y g) t a)

-- a stamp over x: set in l
pub set_left : (s q : ℕ) (m : Bool) (l : List Row) (x : Row) (r : List Row) → IsNewestFirst (l ++ x ∷ r) → x.stamp < s → set_row s q m (l ++ x ∷ r) ≡ set_row s q m l ++ x ∷ r
set_left s q m l x r d h =
    map-append (set_if s q m) l (x ∷ r) ∙ ap (λ z. set_row s q m l ++ z) (set-none s q m (x ∷ r) (absent_above s (x ∷ r) (under_all s l x r d h)))

-- a stamp below x: set in r
pub set_right : (s q : ℕ) (m : Bool) (l : List Row) (x : Row) (r : List Row) → IsNewestFirst (l ++ x ∷ r) → s < x.stamp → set_row s q m (l ++ x ∷ r) ≡ l ++ x ∷ set_row s q m r
set_right s q m l x r d h =
    let front = set-none s q m l (absent_below s l (over_all s l x r d h)) in
    let same = set_if-other s q m x (λ e. omega arith) in
    map-append (set_if s q m) l (x ∷ r) ∙ ap (λ z. z ++ set_if s q m x ∷ set_row s q m r) front ∙ ap (λ z. l ++ z ∷ set_row s q m r) same

-- that of x: x is set
pub set_here : (s q : ℕ) (m : Bool) (l : List Row) (x : Row) (r : List Row) → IsNewestFirst (l ++ x ∷ r) → x.stamp ≡ s → set_row s q m (l ++ x ∷ r) ≡ l ++ record x { request = q; mandated = m } ∷ r
set_here s q m l x r d h =
    let front = set-none s q m l (absent_below s l (over_here l x r d s h)) in
    let back = set-none s q m r (absent_above s r (under_here l x r d s h)) in
    map-append (set_if s q m) l (x ∷ r) ∙ ap (λ z. z ++ set_if s q m x ∷ set_row s q m r) front ∙ ap (λ z. l ++ z ∷ set_row s q m r) (set_if-same s q m x h) ∙ ap (λ z. l ++ record x { request = q; mandated = m } ∷ z) back

-- the order stays
pub set-newest : (s q : ℕ) (m : Bool) (t : List Row) → IsNewestFirst t → IsNewestFirst (set_row s q m t)
set-newest s q m [] d = newest-nil
set-newest s q m (x ∷ t) d =
    let f = set_if s q m in
    let a = All-weaker (λ y. y.stamp < x.stamp) (λ y. (set_if s q m y).stamp < (set_if s q m x).stamp) (λ y g. rw (set_if-stamp s q m y, set_if-stamp s q m x) g) t (newest-head x t d) in
    newest-cons (set_if s q m x) (set_row s q m t) (All-map (λ y. y.stamp < (set_if s q m x).stamp) (set_if s q m) t a) (set-newest s q m t (newest-tail x t d))

-- so does the number of rows
pub set-length : (s q : ℕ) (m : Bool) (t : List Row) → length (set_row s q m t) ≡ length t
set-length s q m t = length-map t (set_if s q m)

-- so do low requests
pub set-low : (s q : ℕ) (m : Bool) (t : List Row) → q ≤ 65535 → HasLowRequests t → HasLowRequests (set_row s q m t)
set-low s q m t h a =
    All-map (λ y. y.request ≤ 65535) (set_if s q m) t (All-weaker (λ y. y.request ≤ 65535) (λ y. (set_if s q m y).request ≤ 65535) (λ y g. set_if-low s q m y h g) t a)

-- ---- a row put in

-- a row goes behind all newer ones
insert-front : (x : Row) (l t : List Row) → All (λ y. x.stamp < y.stamp) l → insert_row x (l ++ t) ≡ l ++ insert_row x t
insert-front x [] t a = refl
insert-front x (y ∷ l) t a =
    let h : x.stamp < y.stamp = All-head (λ y. x.stamp < y.stamp) y l a in
    rw (le-ltb y.stamp x.stamp (omega arith)) (ap (λ z. y ∷ z) (insert-front x l t (All-tail (λ y. x.stamp < y.stamp) y l a)))

-- a row newer than y goes into l
pub insert_left : (x : Row) (l : List Row) (y : Row) (r : List Row) → y.stamp < x.stamp → insert_row x (l ++ y ∷ r) ≡ insert_row x l ++ y ∷ r
insert_left x [] y r h = rw (lt-ltb y.stamp x.stamp h)
insert_left x (z ∷ l) y r h =
    elim (ltb z.stamp x.stamp) as (λ b. cond b (x ∷ z ∷ (l ++ y ∷ r)) (z ∷ insert_row x (l ++ y ∷ r)) ≡ cond b (x ∷ z ∷ l) (z ∷ insert_row x l) ++ y ∷ r) [
      | true ↦ refl
      | false ↦ ap (λ w. z ∷ w) (insert_left x l y r h)
    ]

-- a row older than y goes into r
pub insert_right : (x : Row) (l : List Row) (y : Row) (r : List Row) → IsNewestFirst (l ++ y ∷ r) → x.stamp < y.stamp → insert_row x (l ++ y ∷ r) ≡ l ++ y ∷ insert_row x r
insert_right x l y r d h = insert-front x l (y ∷ r) (over_all x.stamp l y r d h) ∙ rw (le-ltb y.stamp x.stamp (omega arith))

-- what holds of all and of x holds of all with x
insert-all : (P : Row → Type 0) (x : Row) (t : List Row) → P x → All P t → All P (insert_row x t)
insert-all P x [] p a = All-cons P x [] p a
insert-all P x (y ∷ t) p a =
    elim (ltb y.stamp x.stamp) as (λ b. All P (cond b (x ∷ y ∷ t) (y ∷ insert_row x t))) [
      | true ↦ All-cons P x (y ∷ t) p a
      | false ↦ All-cons P y (insert_row x t) (All-head P y t a) (insert-all P x t p (All-tail P y t a))
    ]

-- the order stays
pub insert-newest : (x : Row) (t : List Row) → IsNewestFirst t → IsAbsent x.stamp t → IsNewestFirst (insert_row x t)
insert-newest x [] d a = newest-cons x [] (All-nil (λ y. y.stamp < x.stamp)) newest-nil
insert-newest x (y ∷ t) d a =
    let ne : y.stamp ≡ x.stamp → ⊥ = All-head (λ z. z.stamp ≡ x.stamp → ⊥) y t a in
    let old = newest-head y t d in
    elim (ltb y.stamp x.stamp) as (λ b. ltb y.stamp x.stamp ≡ b → IsNewestFirst (cond b (x ∷ y ∷ t) (y ∷ insert_row x t))) [
      | true ↦ λ e.
          let h = ltb-true y.stamp x.stamp e in
          newest-cons x (y ∷ t) (All-cons (λ z. z.stamp < x.stamp) y t h (All-weaker (λ z. z.stamp < y.stamp) (λ z. z.stamp < x.stamp) (λ z g. omega arith) t old)) d
      | false ↦ λ e.
          let h = ltb-false y.stamp x.stamp e in
          newest-cons y (insert_row x t) (insert-all (λ z. z.stamp < y.stamp) x t (omega arith) old) (insert-newest x t (newest-tail y t d) (All-tail (λ z. z.stamp ≡ x.stamp → ⊥) y t a))
    ] refl

-- so do low requests
pub insert-low : (x : Row) (t : List Row) → x.request ≤ 65535 → HasLowRequests t → HasLowRequests (insert_row x t)
insert-low x t h a = insert-all (λ y. y.request ≤ 65535) x t h a

-- one row more
pub insert-length : (x : Row) (t : List Row) → length (insert_row x t) ≡ length t + 1
insert-length x [] = omega arith
insert-length x (y ∷ t) = elim (ltb y.stamp x.stamp) as (λ b. length (cond b (x ∷ y ∷ t) (y ∷ insert_row x t)) ≡ suc (length t) + 1) [ true ↦ omega arith | false ↦ omega (arith, insert-length x t) ]

-- and its request more
pub insert-requests : (x : Row) (t : List Row) → requests (insert_row x t) ≡ requests t + x.request
insert-requests x [] = omega (arith, requests-cons x [])
insert-requests x (y ∷ t) =
    elim (ltb y.stamp x.stamp) as (λ b. requests (cond b (x ∷ y ∷ t) (y ∷ insert_row x t)) ≡ requests (y ∷ t) + x.request) [
      | true ↦ omega (arith, requests-cons x (y ∷ t))
      | false ↦ omega (arith, requests-cons y (insert_row x t), requests-cons y t, insert-requests x t)
    ]

-- ---- a row taken out

-- where no row has the stamp all stay
without-none : (s : ℕ) (t : List Row) → IsAbsent s t → without s t ≡ t
without-none s t a =
    filter-all (λ y. not (eqb y.stamp s)) t (All-weaker (λ y. y.stamp ≡ s → ⊥) (λ y. not (eqb y.stamp s) ≡ true) (λ y g. ap not (ne_eqb y.stamp s g)) t a)

-- a row with another stamp stays
without-keep : (s : ℕ) (x : Row) (r : List Row) → (x.stamp ≡ s → ⊥) → without s (x ∷ r) ≡ x ∷ without s r
without-keep s x r h = rw (ne_eqb x.stamp s h)

-- a row with the stamp goes
without-drop : (s : ℕ) (x : Row) (r : List Row) → x.stamp ≡ s → without s (x ∷ r) ≡ without s r
without-drop s x r h = rw (eq-eqb x.stamp s h)

-- the rows of two lists without it
without-append : (s : ℕ) (l m : List Row) → without s (l ++ m) ≡ without s l ++ without s m
without-append s l m = filter-append (λ y. not (eqb y.stamp s)) l m

-- a stamp over x: taken out of l
pub without_left : (s : ℕ) (l : List Row) (x : Row) (r : List Row) → IsNewestFirst (l ++ x ∷ r) → x.stamp < s → without s (l ++ x ∷ r) ≡ without s l ++ x ∷ r
without_left s l x r d h =
    without-append s l (x ∷ r) ∙ ap (λ z. without s l ++ z) (without-none s (x ∷ r) (absent_above s (x ∷ r) (under_all s l x r d h)))

-- a stamp below x: taken out of r
pub without_right : (s : ℕ) (l : List Row) (x : Row) (r : List Row) → IsNewestFirst (l ++ x ∷ r) → s < x.stamp → without s (l ++ x ∷ r) ≡ l ++ x ∷ without s r
without_right s l x r d h =
    let front = without-none s l (absent_below s l (over_all s l x r d h)) in
    without-append s l (x ∷ r) ∙ ap (λ z. z ++ without s (x ∷ r)) front ∙ ap (λ z. l ++ z) (without-keep s x r (λ e. omega arith))

-- that of x: x goes
pub without_here : (s : ℕ) (l : List Row) (x : Row) (r : List Row) → IsNewestFirst (l ++ x ∷ r) → x.stamp ≡ s → without s (l ++ x ∷ r) ≡ l ++ r
without_here s l x r d h =
    let front = without-none s l (absent_below s l (over_here l x r d s h)) in
    let back = without-none s r (absent_above s r (under_here l x r d s h)) in
    without-append s l (x ∷ r) ∙ ap (λ z. z ++ without s (x ∷ r)) front ∙ ap (λ z. l ++ z) (without-drop s x r h ∙ back)

-- the order stays
pub without-newest : (s : ℕ) (t : List Row) → IsNewestFirst t → IsNewestFirst (without s t)
without-newest s t d = AllPairs-filter (λ newer older. older.stamp < newer.stamp) (λ y. not (eqb y.stamp s)) t d

-- so do low requests
pub without-low : (s : ℕ) (t : List Row) → HasLowRequests t → HasLowRequests (without s t)
without-low s t a = All-filter (λ y. not (eqb y.stamp s)) (λ y. y.request ≤ 65535) t a

-- no row more
pub without-length : (s : ℕ) (t : List Row) → length (without s t) ≤ length t
without-length s t = omega (arith, length-filter_both (λ y. not (eqb y.stamp s)) (λ y. not (not (eqb y.stamp s))) (λ y. refl) t)

-- and no request more
pub without-requests : (s : ℕ) (t : List Row) → requests (without s t) ≤ requests t
without-requests s t = omega (arith, sum_by-filter_both (λ y. not (eqb y.stamp s)) (λ y. not (not (eqb y.stamp s))) (λ y. refl) (λ y. y.request) t)

-- what is kept has another stamp
kept-other : (s : ℕ) (y : Row) → not (eqb y.stamp s) ≡ true → y.stamp ≡ s → ⊥
kept-other s y e h = let g = eq-eqb y.stamp s h in absurd (cc)

-- the stamp is gone
pub absent_without : (s : ℕ) (t : List Row) → IsAbsent s (without s t)
absent_without s t =
    All-weaker (λ y. not (eqb y.stamp s) ≡ true) (λ y. y.stamp ≡ s → ⊥) (kept-other s) (without s t) (filter_passes (λ y. not (eqb y.stamp s)) t)

-- ---- the row of a stamp

-- the row of a stamp that the first list lacks
row-front : (s : ℕ) (l t : List Row) → IsAbsent s l → row_at s (l ++ t) ≡ row_at s t
row-front s [] t a = refl
row-front s (x ∷ l) t a = rw (ne_eqb x.stamp s (All-head (λ y. y.stamp ≡ s → ⊥) x l a)) (row-front s l t (All-tail (λ y. y.stamp ≡ s → ⊥) x l a))

-- a stamp that none has
pub row-none : (s : ℕ) (t : List Row) → IsAbsent s t → row_at s t ≡ None
row-none s [] a = refl
row-none s (x ∷ t) a = rw (ne_eqb x.stamp s (All-head (λ y. y.stamp ≡ s → ⊥) x t a)) (row-none s t (All-tail (λ y. y.stamp ≡ s → ⊥) x t a))

-- the row of a stamp that the second list lacks
row-back : (s : ℕ) (l t : List Row) → IsAbsent s t → row_at s (l ++ t) ≡ row_at s l
row-back s [] t a = row-none s t a
row-back s (x ∷ l) t a = ap (λ z. cond (eqb x.stamp s) (Some x) z) (row-back s l t a)

-- a stamp over x: found in l
pub row_left : (s : ℕ) (l : List Row) (x : Row) (r : List Row) → IsNewestFirst (l ++ x ∷ r) → x.stamp < s → row_at s (l ++ x ∷ r) ≡ row_at s l
row_left s l x r d h = row-back s l (x ∷ r) (absent_above s (x ∷ r) (under_all s l x r d h))

-- a stamp below x: found in r
pub row_right : (s : ℕ) (l : List Row) (x : Row) (r : List Row) → IsNewestFirst (l ++ x ∷ r) → s < x.stamp → row_at s (l ++ x ∷ r) ≡ row_at s r
row_right s l x r d h = row-front s l (x ∷ r) (absent_below s l (over_all s l x r d h)) ∙ rw (ne_eqb x.stamp s (omega arith))

-- that of x: x
pub row_here : (s : ℕ) (l : List Row) (x : Row) (r : List Row) → IsNewestFirst (l ++ x ∷ r) → x.stamp ≡ s → row_at s (l ++ x ∷ r) ≡ Some x
row_here s l x r d h = row-front s l (x ∷ r) (absent_below s l (over_here l x r d s h)) ∙ rw (eq-eqb x.stamp s h)

-- what holds of each row holds of that of a stamp
pub row-all : (P : Row → Type 0) (s : ℕ) (t : List Row) → All P t → IfSome (row_at s t) P
row-all P s [] a = tt
row-all P s (x ∷ t) a =
    elim (eqb x.stamp s) as (λ b. IfSome (cond b (Some x) (row_at s t)) P) [ true ↦ All-head P x t a | false ↦ row-all P s t (All-tail P x t a) ]

-- told for the row that was found
row-fewer-by : (s : ℕ) (t : List Row) (o : Option Row) → o ≡ row_at s t → IfSome o (λ _. length (without s t) < length t)
row-fewer-by s t None e = tt
row-fewer-by s [] (Some x) e = absurd (cc)
row-fewer-by s (y ∷ t) (Some x) e =
    elim (eqb y.stamp s) as (λ b. Some x ≡ cond b (Some y) (row_at s t) → length (cond (not b) (y ∷ without s t) (without s t)) < suc (length t)) [
      | true ↦ λ h. omega (arith, without-length s t)
      | false ↦ λ h. omega (arith, row-fewer-by s t (Some x) h)
    ] e

-- a row that is there leaves fewer when it goes
pub row-fewer : (s : ℕ) (t : List Row) → IfSome (row_at s t) (λ _. length (without s t) < length t)
row-fewer s t = row-fewer-by s t (row_at s t) refl

-- what the list asks for after a row of it is set: what that row asked for goes, what it asks for comes
pub set-requests : (s q : ℕ) (m : Bool) (t : List Row) (x : Row) → IsNewestFirst t → row_at s t ≡ Some x → requests (set_row s q m t) + x.request ≡ requests t + q
set-requests s q m [] x d e = absurd (cc)
set-requests s q m (y ∷ t) x d e =
    elim (eqb y.stamp s) as (λ b. eqb y.stamp s ≡ b → cond b (Some y) (row_at s t) ≡ Some x → requests (cond b (record y { request = q; mandated = m }) y ∷ set_row s q m t) + x.request ≡ requests (y ∷ t) + q) [
      | true ↦ λ h g.
          let rest = set-none s q m t (absent_above s t (under_here [] y t d s (eqb-true y.stamp s h))) in
          let same : y.request ≡ x.request = ap (λ z. z.request) (same-row g) in
          rw rest (omega (arith, requests-cons y t, requests-cons (record y { request = q; mandated = m }) t))
      | false ↦ λ h g. omega (arith, requests-cons y t, requests-cons y (set_row s q m t), set-requests s q m t x (newest-tail y t d) g)
    ] refl e
