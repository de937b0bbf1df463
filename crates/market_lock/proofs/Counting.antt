-- Different seats, as many as there are: what is added up over them is added up over all.
use Rattle.std.specs.Prelude.{slice_get}
use Rattle.std.proofs.Common.{◌≡◌, ◌≢◌, ℕ, zero, suc, ◌+◌, ◌<◌, ◌≤◌, ◌==◌, Bool, true, false, cond, List, [], ◌∷◌, ◌++◌, length, Option, None, unwrap_or, inl, inr, refl, ap, sym, ◌∙◌, arith, eq-eqb, ne_eqb}
use Rattle.std.proofs.lemmas.Bool.{cases_lt}
use Rattle.std.proofs.lemmas.List.Sums.{sum_by-cons}
use Rattle.std.specs.List.{sum_by}
use borrow.Author.Count.{below_more}
use mathlib.Core.Option.{some}
use lib.ListN.{get_elem?}
use Rattle.market_types.specs.declared.reply.Entry.{Entry}
use Rattle.market_types.specs.History.{of_seat}
use Rattle.market_lock.specs.declared.view.Known.{Known}
use Rattle.market_lock.specs.Rule.{Once}

-- the sum of this over what is kept
abbrev pub added : (Known → ℕ) → List Known → ℕ
added f [] = 0
added f (k ∷ ks) = f k + added f ks

pub added_same : (f g : Known → ℕ) (ks : List Known) → ((i : ℕ) (k : Known) → get_elem? ks i ≡ some k → f k ≡ g k) → added f ks ≡ added g ks
added_same f g [] h = refl
added_same f g (k ∷ ks) h = let here = h 0 k refl in let rest = added_same f g ks (λ i x e. h (suc i) x e) in omega arith

pub added_append : (f : Known → ℕ) (xs ys : List Known) → added f (xs ++ ys) ≡ added f xs + added f ys
added_append f [] ys = omega arith
added_append f (x ∷ xs) ys = let rest = added_append f xs ys in omega arith

added_ones : (ks : List Known) → added (λ _. 1) ks ≡ length ks
added_ones [] = refl
added_ones (k ∷ ks) = let rest = added_ones ks in omega arith

-- the sum of this over the numbers below n
abbrev pub upto : (ℕ → ℕ) → ℕ → ℕ
upto f zero = 0
upto f (suc n) = upto f n + f n

upto_same : (f g : ℕ → ℕ) (n : ℕ) → ((j : ℕ) → j < n → f j ≡ g j) → upto f n ≡ upto g n
upto_same f g zero h = refl
upto_same f g (suc n) h = let rest = upto_same f g n (λ j small. h j (omega (arith, small))) in let last = h n (omega arith) in omega arith

upto_add : (f g : ℕ → ℕ) (n : ℕ) → upto (λ j. f j + g j) n ≡ upto f n + upto g n
upto_add f g zero = refl
upto_add f g (suc n) = let rest = upto_add f g n in omega arith

upto_none : (f : ℕ → ℕ) (n : ℕ) → ((j : ℕ) → j < n → f j ≡ 0) → upto f n ≡ 0
upto_none f zero h = refl
upto_none f (suc n) h = let rest = upto_none f n (λ j small. h j (omega (arith, small))) in let last = h n (omega arith) in omega arith

none_upto : (f : ℕ → ℕ) (n : ℕ) → upto f n ≡ 0 → (j : ℕ) → j < n → f j ≡ 0
none_upto f zero e j small = absurd (omega (arith, small))
none_upto f (suc n) e j small = below_more (λ i. f i ≡ 0) n (none_upto f n (omega (arith, e))) (omega (arith, e)) j (omega (arith, small))

upto_ones : (n : ℕ) → upto (λ _. 1) n ≡ n
upto_ones zero = refl
upto_ones (suc n) = let rest = upto_ones n in omega arith

-- the first apart
upto_first : (f : ℕ → ℕ) (n : ℕ) → upto f (suc n) ≡ f 0 + upto (λ j. f (suc j)) n
upto_first f zero = omega arith
upto_first f (suc n) = let rest = upto_first f n in omega arith

-- the same but for one number, where it is 0
abbrev off : (ℕ → ℕ) → ℕ → ℕ → ℕ
off f x j = cond (x == j) 0 (f j)

off_here : (f : ℕ → ℕ) (x : ℕ) → off f x x ≡ 0
off_here f x = ap (λ (b : Bool). cond b 0 (f x)) (eq-eqb x x refl)

off_there : (f : ℕ → ℕ) (x j : ℕ) → x ≢ j → off f x j ≡ f j
off_there f x j ne = ap (λ (b : Bool). cond b 0 (f j)) (ne_eqb x j ne)

upto_off : (f : ℕ → ℕ) (n x : ℕ) → x < n → upto f n ≡ f x + upto (off f x) n
upto_off f zero x h = absurd (omega (arith, h))
upto_off f (suc n) x h = below_more (λ y. upto f (suc n) ≡ f y + upto (off f y) (suc n)) n
    (λ y small. let rest = upto_off f n y small in let there = off_there f y n (λ e. absurd (omega (arith, small, e))) in omega arith)
    (let same = upto_same f (off f n) n (λ j small. sym (off_there f n j (λ e. absurd (omega (arith, small, e))))) in let here = off_here f n in omega arith)
    x (omega (arith, h))

-- what is left where each of their seats is 0
abbrev left : (ℕ → ℕ) → List Known → ℕ → ℕ
left f [] = f
left f (k ∷ ks) = left (off f k.seat) ks

parted : (f : ℕ → ℕ) (ks : List Known) (n : ℕ) → ((i : ℕ) (k : Known) → get_elem? ks i ≡ some k → k.seat < n) → Once ks → upto f n ≡ added (λ k. f k.seat) ks + upto (left f ks) n
parted f [] n fits once = omega arith
parted f (k ∷ ks) n fits once =
    let apart : (i : ℕ) (x : Known) → get_elem? ks i ≡ some x → k.seat ≢ x.seat = λ i x e same. let h : 0 ≡ suc i = once 0 (suc i) k x refl e same in absurd (omega arith) in
    let sum = upto_off f n k.seat (fits 0 k refl) in
    let rest = parted (off f k.seat) ks n (λ i x e. fits (suc i) x e) (λ i j x y p q same. let e = once (suc i) (suc j) x y p q same in omega arith) in
    let same = added_same (λ x. off f k.seat x.seat) (λ x. f x.seat) ks (λ i x e. off_there f k.seat x.seat (apart i x e)) in
    omega arith

none_if : (b : Bool) (m n : ℕ) → (m ≡ 0 → n ≡ 0) → cond b 0 m ≡ 0 → cond b 0 n ≡ 0
none_if true m n h e = refl
none_if false m n h e = h e

left_none : (f g : ℕ → ℕ) (ks : List Known) (j : ℕ) → (f j ≡ 0 → g j ≡ 0) → left f ks j ≡ 0 → left g ks j ≡ 0
left_none f g [] j h e = h e
left_none f g (k ∷ ks) j h e = left_none (off f k.seat) (off g k.seat) ks j (none_if (k.seat == j) (f j) (g j) h) e

-- as many different seats as there are are all of them
pub all_seats : (f : ℕ → ℕ) (ks : List Known) (n : ℕ) → ((i : ℕ) (k : Known) → get_elem? ks i ≡ some k → k.seat < n) → Once ks → length ks ≡ n → upto f n ≡ added (λ k. f k.seat) ks
all_seats f ks n fits once long =
    let none : upto (left (λ _. 1) ks) n ≡ 0 = omega (arith, parted (λ _. 1) ks n fits once, upto_ones n, added_ones ks, long) in
    let rest : upto (left f ks) n ≡ 0 = upto_none (left f ks) n (λ j small. left_none (λ _. 1) f ks j (λ e. absurd (omega (arith, e))) (none_upto (left (λ _. 1) ks) n none j small)) in
    omega (arith, parted f ks n fits once, rest)

-- ---- the entries of a history, seat by seat

abbrev one_of : ℕ → ℕ → ℕ
one_of s j = cond (s == j) 1 0

none_of : (b : Bool) → ◌≡◌ {A = ℕ} (cond b 0 (cond b 1 0)) 0
none_of true = refl
none_of false = refl

upto_one : (s n : ℕ) → s < n → upto (one_of s) n ≡ 1
upto_one s n h =
    let here : one_of s s ≡ 1 = ap (λ (b : Bool). cond b 1 0) (eq-eqb s s refl) in
    omega (arith, upto_off (one_of s) n s h, here, upto_none (off (one_of s) s) n (λ j _. none_of (s == j)))

long_if : (b : Bool) (e : Entry) (l : List Entry) → length (cond b (e ∷ l) l) ≡ cond b 1 0 + length l
long_if true e l = omega arith
long_if false e l = omega arith

none_left : (b : Bool) (e : Entry) (l : List Entry) → cond b (e ∷ l) l ≡ [] → l ≡ []
none_left true e l is = absurd (let long = ap length is in omega arith)
none_left false e l is = is

pub entries_counted : (log : List Entry) (n : ℕ) → ((s : ℕ) → n ≤ s → of_seat s log ≡ []) → upto (λ s. length (of_seat s log)) n ≡ length log
entries_counted [] n few = upto_none (λ s. length (of_seat s [])) n (λ _ _. refl)
entries_counted (e ∷ es) n few =
    let seat : ℕ = e.call.seat in
    let small : seat < n = elim (cases_lt seat n) [
      | inl h ↦ h
      | inr h ↦ absurd (let long = ap length (sym (ap (λ (b : Bool). cond b (e ∷ of_seat seat es) (of_seat seat es)) (eq-eqb seat seat refl)) ∙ few seat h) in omega arith)
    ] in
    let rest = entries_counted es n (λ s h. none_left (seat == s) e (of_seat s es) (few s h)) in
    let split = upto_same (λ s. length (of_seat s (e ∷ es))) (λ s. one_of seat s + length (of_seat s es)) n (λ s _. long_if (seat == s) e (of_seat s es)) in
    let sum = upto_add (one_of seat) (λ s. length (of_seat s es)) n in
    let one = upto_one seat n small in
    omega (arith, rest, split, sum, one)

-- ---- the seats of a market, each weighed by where it is

abbrev pub seat_at : List (Option ℕ) → ℕ → Option ℕ
seat_at seats seat = unwrap_or (slice_get seats seat) None

pub seats_weighed : (w : Option ℕ → ℕ) (seats : List (Option ℕ)) → upto (λ s. w (seat_at seats s)) (length seats) ≡ sum_by w seats
seats_weighed w [] = refl
seats_weighed w (x ∷ xs) = omega (arith, upto_first (λ s. w (seat_at (x ∷ xs) s)) (length xs), seats_weighed w xs, sum_by-cons w x xs)
