-- The table by number under each change, and the sorted list that it stands for.
use Rattle.std.proofs.Common.{◌≡◌, ◌≢◌, ℕ, zero, suc, ◌+◌, ◌-◌, ◌<◌, false, cond, not, List, [], ◌∷◌, ◌++◌, length, get_or, set, take, drop, map, Some, refl, sym, ap, ◌∙◌, arith, inl, inr, length-take, length-drop}
use Rattle.std.specs.List.{All}
use Rattle.std.proofs.lemmas.Bool.{cases_lt, cases_Bool, eq-eqb, ne_eqb, lt-ltb, le-ltb}
use Rattle.std.proofs.lemmas.List.Elements.{All-nil, All-cons, All-head, All-tail, All-weaker, All-map}
use Rattle.std.proofs.lemmas.List.{append-nil, take-append-drop, drop_more, get_or-take, get_or-drop, length-set}
use Rattle.std.proofs.lemmas.List.Kept.{AllPairs-cons, AllPairs-filter}
use Rattle.std.proofs.Math.Seq.{set-append_seam}
use Rattle.market_types.specs.State.{Claim, Arena}
use Rattle.market_types.specs.Step.{arena_at, without, with_claim}
use Rattle.arena_store.specs.Arenas.{has_number, IsMissing}
use Rattle.arena_store.specs.Store.{by_stamp, insert_arena, IsByNumber, IsNewestFirst, IsApart}
use Rattle.arena_store.proofs.ByStamp.{IsOlder, All-by_stamp, All-insert, by_stamp-newest, by_stamp-map, by_stamp-without, arena_at-by_stamp}
use Rattle.arena_store.proofs.Found.{AllPairs-head, AllPairs-tail, AllPairs-nil}

-- ---- an index of the table

pub split-at : {X : Type 0} (xs : List X) (i : ℕ) (x : X) → i < length xs → x ≡ get_or xs i x → xs ≡ take i xs ++ x ∷ drop (i + 1) xs
split-at xs i x within e =
    sym (take-append-drop i xs) ∙ ap (λ ys. take i xs ++ ys) (drop_more xs i x within ∙ ap (λ r. r ∷ drop (i + 1) xs) (sym e))

length-front : {X : Type 0} (xs : List X) (i : ℕ) → i < length xs → length (take i xs) ≡ i
length-front xs i within = omega (arith, length-take i xs)

-- a write at an index
pub set-split : {X : Type 0} (xs : List X) (i : ℕ) (x y : X) → i < length xs → x ≡ get_or xs i x → set xs i y ≡ take i xs ++ y ∷ drop (i + 1) xs
set-split xs i x y within e =
    ap (λ zs. set zs i y) (split-at xs i x within e)
    ∙ ap (λ n. set (take i xs ++ x ∷ drop (i + 1) xs) n y) (sym (length-front xs i within))
    ∙ set-append_seam (take i xs) x (drop (i + 1) xs) y

-- the numbers before and after an index are others
pub missing-front : (xs : List Arena) (i : ℕ) (x : Arena) → IsByNumber xs → i < length xs → x ≡ get_or xs i x → IsMissing x.number (take i xs)
missing-front xs i x rising within e =
    λ k d inside.
    let size = length-front xs i within in
    let below : k < i = omega arith in
    let same : get_or (take i xs) k x ≡ get_or xs k x = get_or-take i xs k x below in
    let pair : (get_or xs k x).number < (get_or xs i x).number = rising k i x below within in
    let up : (get_or xs k x).number < x.number = rw (← e) at pair in
    let apart : has_number x.number (get_or (take i xs) k x) ≡ false = rw same (ne_eqb (get_or xs k x).number x.number (λ f. omega arith)) in
    All-any (λ (b : Arena). has_number x.number b ≡ false) (take i xs) k x d inside apart
  where
    All-any : (P : Arena → Type 0) (xs : List Arena) (k : ℕ) (d e : Arena) → k < length xs → P (get_or xs k d) → P (get_or xs k e)
    All-any P [] k d e within h = absurd (omega arith)
    All-any P (x ∷ xs) zero d e within h = h
    All-any P (x ∷ xs) (suc k) d e within h = All-any P xs k d e (omega arith) h

pub missing-back : (xs : List Arena) (i : ℕ) (x : Arena) → IsByNumber xs → i < length xs → x ≡ get_or xs i x → IsMissing x.number (drop (i + 1) xs)
missing-back xs i x rising within e =
    λ k d inside.
    let size : length (drop (i + 1) xs) ≡ length xs - (i + 1) = length-drop (i + 1) xs in
    let same : get_or (drop (i + 1) xs) k x ≡ get_or xs (i + 1 + k) x = get_or-drop (i + 1) xs k x in
    let pair : (get_or xs i x).number < (get_or xs (i + 1 + k) x).number = rising i (i + 1 + k) x (omega arith) (omega arith) in
    let up : x.number < (get_or xs (i + 1 + k) x).number = rw (← e) at pair in
    let apart : has_number x.number (get_or (drop (i + 1) xs) k x) ≡ false = rw same (ne_eqb (get_or xs (i + 1 + k) x).number x.number (λ f. omega arith)) in
    All-any (λ (b : Arena). has_number x.number b ≡ false) (drop (i + 1) xs) k x d inside apart
  where
    All-any : (P : Arena → Type 0) (xs : List Arena) (k : ℕ) (d e : Arena) → k < length xs → P (get_or xs k d) → P (get_or xs k e)
    All-any P [] k d e within h = absurd (omega arith)
    All-any P (x ∷ xs) zero d e within h = h
    All-any P (x ∷ xs) (suc k) d e within h = All-any P xs k d e (omega arith) h

-- ---- what the table stands for

-- what stands at an index is what is found by its number
pub table-found : (xs : List Arena) (i : ℕ) (x : Arena) → IsByNumber xs → i < length xs → x ≡ get_or xs i x → arena_at x.number (by_stamp xs) ≡ Some x
table-found xs i x rising within e =
    ap (λ ys. arena_at x.number (by_stamp ys)) (split-at xs i x within e)
    ∙ arena_at-by_stamp x.number (take i xs) (drop (i + 1) xs) x (eq-eqb x.number x.number refl) (missing-front xs i x rising within e) (missing-back xs i x rising within e)

claims-missing : (n : ℕ) (c : Claim) (xs : List Arena) → IsMissing n xs → with_claim n c xs ≡ xs
claims-missing n c [] h = refl
claims-missing n c (x ∷ xs) h =
    rw (All-head (λ (b : Arena). has_number n b ≡ false) x xs h) (ap (λ ys. x ∷ ys) (claims-missing n c xs (All-tail (λ (b : Arena). has_number n b ≡ false) x xs h)))

claims-split : (n : ℕ) (c : Claim) (xs : List Arena) (x : Arena) (ys : List Arena) → x.number ≡ n → IsMissing n xs → IsMissing n ys → with_claim n c (xs ++ x ∷ ys) ≡ xs ++ record x { claim = c } ∷ ys
claims-split n c [] x ys e before after = rw (eq-eqb x.number n e) (ap (λ zs. record x { claim = c } ∷ zs) (claims-missing n c ys after))
claims-split n c (z ∷ xs) x ys e before after =
    rw (All-head (λ (b : Arena). has_number n b ≡ false) z xs before)
    (ap (λ zs. z ∷ zs) (claims-split n c xs x ys e (All-tail (λ (b : Arena). has_number n b ≡ false) z xs before) after))

keeps-stamp : (n : ℕ) (c : Claim) (b : Arena) → (cond (has_number n b) (record b { claim = c }) b).stamp ≡ b.stamp
keeps-stamp n c b = elim (cases_Bool (has_number n b)) [ inl t ↦ rw t refl | inr f ↦ rw f refl ]

-- a claim changes
pub table-claimed : (xs : List Arena) (i : ℕ) (x : Arena) (c : Claim) → IsByNumber xs → i < length xs → x ≡ get_or xs i x
    → by_stamp (set xs i (record x { claim = c })) ≡ with_claim x.number c (by_stamp xs)
table-claimed xs i x c rising within e =
    let front = take i xs in let back = drop (i + 1) xs in
    ap by_stamp (set-split xs i x (record x { claim = c }) within e ∙ sym (claims-split x.number c front x back refl (missing-front xs i x rising within e) (missing-back xs i x rising within e))
    ∙ ap (with_claim x.number c) (sym (split-at xs i x within e)))
    ∙ by_stamp-map (λ (b : Arena). cond (has_number x.number b) (record b { claim = c }) b) xs (keeps-stamp x.number c)

-- an arena goes
pub table-removed : (xs : List Arena) (i : ℕ) (x : Arena) → IsByNumber xs → i < length xs → x ≡ get_or xs i x
    → by_stamp (take i xs ++ drop (i + 1) xs) ≡ without x.number (by_stamp xs)
table-removed xs i x rising within e =
    by_stamp-without x.number (take i xs) (drop (i + 1) xs) x (eq-eqb x.number x.number refl) (missing-front xs i x rising within e) (missing-back xs i x rising within e)
    ∙ ap (λ ys. without x.number (by_stamp ys)) (sym (split-at xs i x within e))

-- an arena gets the greatest stamp
pub table-promoted : (xs : List Arena) (i : ℕ) (x y : Arena) → IsByNumber xs → i < length xs → x ≡ get_or xs i x → All (IsOlder y.stamp) xs
    → by_stamp (set xs i y) ≡ y ∷ without x.number (by_stamp xs)
table-promoted xs i x y rising within e older =
    let front = take i xs in let back = drop (i + 1) xs in
    let parts : All (IsOlder y.stamp) (front ++ x ∷ back) = rw (← split-at xs i x within e) older in
    ap by_stamp (set-split xs i x y within e)
    ∙ by_stamp-newest y front back (All-front (IsOlder y.stamp) front (x ∷ back) parts) (All-tail (IsOlder y.stamp) x back (All-back (IsOlder y.stamp) front (x ∷ back) parts))
    ∙ ap (λ ys. y ∷ ys) (table-removed xs i x rising within e)
  where
    All-front : (P : Arena → Type 0) (xs ys : List Arena) → All P (xs ++ ys) → All P xs
    All-front P [] ys h = All-nil P
    All-front P (x ∷ xs) ys h = All-cons P x xs (All-head P x (xs ++ ys) h) (All-front P xs ys (All-tail P x (xs ++ ys) h))

    All-back : (P : Arena → Type 0) (xs ys : List Arena) → All P (xs ++ ys) → All P ys
    All-back P [] ys h = h
    All-back P (x ∷ xs) ys h = All-back P xs ys (All-tail P x (xs ++ ys) h)

-- a new arena with the greatest stamp
pub table-pushed : (xs : List Arena) (y : Arena) → All (IsOlder y.stamp) xs → by_stamp (xs ++ y ∷ []) ≡ y ∷ by_stamp xs
table-pushed xs y older = by_stamp-newest y xs [] older (All-nil (IsOlder y.stamp)) ∙ ap (λ ys. y ∷ by_stamp ys) (append-nil xs)

-- ---- the numbers of the table

pub rising-set : (xs : List Arena) (i : ℕ) (x y : Arena) → x ≡ get_or xs i x → y.number ≡ x.number → IsByNumber xs → IsByNumber (set xs i y)
rising-set xs i x y e same rising =
    λ j k d below within.
    let size = length-set xs i y in
    let inside : k < length xs = omega arith in
    let pair : (get_or xs j d).number < (get_or xs k d).number = rising j k d below inside in
    omega (arith, numbers xs i x y e same j d (omega arith), numbers xs i x y e same k d inside)
  where
    numbers : (xs : List Arena) (i : ℕ) (x y : Arena) → x ≡ get_or xs i x → y.number ≡ x.number → (j : ℕ) (d : Arena) → j < length xs → (get_or (set xs i y) j d).number ≡ (get_or xs j d).number
    numbers [] i x y e same j d within = absurd (omega arith)
    numbers (z ∷ xs) zero x y e same zero d within = same ∙ ap (λ (a : Arena). a.number) e
    numbers (z ∷ xs) zero x y e same (suc j) d within = refl
    numbers (z ∷ xs) (suc i) x y e same zero d within = refl
    numbers (z ∷ xs) (suc i) x y e same (suc j) d within = numbers xs i x y e same j d (omega arith)

-- ---- what holds of the sorted list

pub apart-insert : (x : Arena) (xs : List Arena) → All (λ (b : Arena). x.number ≢ b.number) xs → IsApart xs → IsApart (insert_arena x xs)
apart-insert x [] h apart = AllPairs-cons (λ (a b : Arena). a.number ≢ b.number) x [] h apart
apart-insert x (b ∷ bs) h apart =
    let R : Arena → Arena → Type 0 = λ (a b : Arena). a.number ≢ b.number in
    elim (cases_lt b.stamp x.stamp) [
      | inl l ↦ rw (lt-ltb b.stamp x.stamp l) (AllPairs-cons R x (b ∷ bs) h apart)
      | inr g ↦
          let other : b.number ≢ x.number = λ f. All-head (λ (c : Arena). x.number ≢ c.number) b bs h (sym f) in
          rw (le-ltb b.stamp x.stamp g)
          (AllPairs-cons R b (insert_arena x bs) (All-insert (R b) x bs other (AllPairs-head R b bs apart))
          (apart-insert x bs (All-tail (λ (c : Arena). x.number ≢ c.number) b bs h) (AllPairs-tail R b bs apart)))
    ]

pub apart-by_stamp : (xs : List Arena) → IsByNumber xs → IsApart (by_stamp xs)
apart-by_stamp [] rising = AllPairs-nil (λ (a b : Arena). a.number ≢ b.number)
apart-by_stamp (x ∷ xs) rising =
    let S : Arena → Arena → Type 0 = λ (a b : Arena). a.number < b.number in
    apart-insert x (by_stamp xs)
    (All-by_stamp (λ (b : Arena). x.number ≢ b.number) xs
    (All-weaker (λ (b : Arena). x.number < b.number) (λ (b : Arena). x.number ≢ b.number) (λ b l f. omega arith) xs (AllPairs-head S x xs rising)))
    (apart-by_stamp xs (AllPairs-tail S x xs rising))

-- changed claims keep the order by stamp
pub newest-with_claim : (n : ℕ) (c : Claim) (xs : List Arena) → IsNewestFirst xs → IsNewestFirst (with_claim n c xs)
newest-with_claim n c [] newest = AllPairs-nil (λ (a b : Arena). b.stamp < a.stamp)
newest-with_claim n c (x ∷ xs) newest =
    let S : Arena → Arena → Type 0 = λ (a b : Arena). b.stamp < a.stamp in
    let f : Arena → Arena = λ (b : Arena). cond (has_number n b) (record b { claim = c }) b in
    let here = keeps-stamp n c x in
    AllPairs-cons S (f x) (map f xs)
    (All-map (S (f x)) f xs (All-weaker (S x) (λ (b : Arena). S (f x) (f b)) (λ b l. let there = keeps-stamp n c b in omega arith) xs (AllPairs-head S x xs newest)))
    (newest-with_claim n c xs (AllPairs-tail S x xs newest))

pub newest-without : (n : ℕ) (xs : List Arena) → IsNewestFirst xs → IsNewestFirst (without n xs)
newest-without n xs newest = AllPairs-filter (λ (a b : Arena). b.stamp < a.stamp) (λ (b : Arena). not (has_number n b)) xs newest

pub newest-cons : (x : Arena) (xs : List Arena) → All (IsOlder x.stamp) xs → IsNewestFirst xs → IsNewestFirst (x ∷ xs)
newest-cons x xs older newest = AllPairs-cons (λ (a b : Arena). b.stamp < a.stamp) x xs older newest
