-- Runs of plain bytes, found by a vector of 16.
use Rattle.std.proofs.Common.{◌≡◌, ℕ, zero, suc, eq-eqb, ◌+◌, ◌-◌, ◌%◌, ◌^◌, ◌<◌, ◌≤◌, Bool, true, false, cond, not, eqb, ltb, List, [], ◌∷◌, map, length, get_or, replicate, take, refl, sym, ap, ◌∙◌, subst, arith, w8}
use Rattle.std.specs.List.{prefix_len}
use Rattle.std.specs.Int.Count.{count_trailing_zeros}
use Rattle.std.proofs.lemmas.Bool.{and_parts, ne_eqb, true≢false}
use Rattle.std.proofs.lemmas.Bool.Decides.{nat_tests}
use Rattle.std.proofs.lemmas.List.{length-map}
use Rattle.std.proofs.lemmas.Simd.{tops_compared, zip2_splat, zip2_splat_left, mask_l-mod, first_set_mask_l}
use lib.Lanes.{zip2, sel_l, top, mask_l}
use Rattle.journal_replay.specs.Plain.{is_plain, are_plain}

-- a byte that is this one becomes 0
abbrev pub without : ℕ → ℕ → ℕ
without q x = cond (eqb x q) 0 x

-- what is compared of a byte: it is at most 94 where the byte is plain
abbrev pub compared : ℕ → ℕ
compared x = (without 92 (without 34 x) + (2 ^ 8 - 32)) % 2 ^ 8

abbrev pub is_other : ℕ → Bool
is_other x = ltb 94 (compared x)

fused : {X Y Z : Type 0} (g : Y → Z) (f : X → Y) (xs : List X) → map g (map f xs) ≡ map (λ x. g (f x)) xs
fused g f [] = refl
fused g f (x ∷ xs) = ap (λ ys. g (f x) ∷ ys) (fused g f xs)

chosen : (p : ℕ → Bool) (xs : List ℕ) (n : ℕ) → length xs ≡ n → sel_l (map p xs) (replicate n 0) xs ≡ map (λ x. cond (p x) 0 x) xs
chosen p [] n e = refl
chosen p (x ∷ xs) zero e = absurd (omega (arith, e))
chosen p (x ∷ xs) (suc n) e = ap (λ ys. cond (p x) 0 x ∷ ys) (chosen p xs n (omega (arith, e)))

-- the lanes after a select
abbrev pub cleared : ℕ → List ℕ → List ℕ
cleared q xs = sel_l (map (top 7) (zip2 (λ a b. cond (eqb a b) (2 ^ 8 - 1) 0) xs (replicate 16 q))) (replicate 16 0) xs

cleared-is : (q : ℕ) (xs : List ℕ) → length xs ≡ 16 → cleared q xs ≡ map (without q) xs
cleared-is q xs long = ap (λ m. sel_l m (replicate 16 0) xs) (tops_compared w8 eqb xs (replicate 16 q) ∙ zip2_splat eqb xs 16 q long) ∙ chosen (λ x. eqb x q) xs 16 long

both-cleared : (xs : List ℕ) → length xs ≡ 16 → cleared 92 (cleared 34 xs) ≡ map (λ x. without 92 (without 34 x)) xs
both-cleared xs long =
    ap (cleared 92) (cleared-is 34 xs long) ∙ cleared-is 92 (map (without 34) xs) (length-map xs (without 34) ∙ long) ∙ fused (without 92) (without 34) xs

-- the lanes that are compared, and the mask of those that are not plain
abbrev pub lowered : List ℕ → List ℕ
lowered xs = zip2 (λ a b. (a + (2 ^ 8 - b)) % 2 ^ 8) (cleared 92 (cleared 34 xs)) (replicate 16 32)

abbrev pub others : List ℕ → List Bool
others xs = map (top 7) (zip2 (λ a b. cond (ltb a b) (2 ^ 8 - 1) 0) (replicate 16 94) (lowered xs))

lowered-is : (xs : List ℕ) → length xs ≡ 16 → lowered xs ≡ map compared xs
lowered-is xs long =
    let kept : List ℕ = map (λ x. without 92 (without 34 x)) xs in
    ap (λ ys. zip2 (λ a b. (a + (2 ^ 8 - b)) % 2 ^ 8) ys (replicate 16 32)) (both-cleared xs long)
    ∙ zip2_splat (λ a b. (a + (2 ^ 8 - b)) % 2 ^ 8) kept 16 32 (length-map xs (λ x. without 92 (without 34 x)) ∙ long)
    ∙ fused (λ x. (x + (2 ^ 8 - 32)) % 2 ^ 8) (λ x. without 92 (without 34 x)) xs

others-are : (xs : List ℕ) → length xs ≡ 16 → others xs ≡ map is_other xs
others-are xs long =
    tops_compared w8 ltb (replicate 16 94) (lowered xs)
    ∙ ap (zip2 ltb (replicate 16 94)) (lowered-is xs long)
    ∙ zip2_splat_left ltb 94 16 (map compared xs) (length-map xs compared ∙ long)
    ∙ fused (λ y. ltb 94 y) compared xs

abbrev pub bits : List ℕ → ℕ
bits xs = mask_l (others xs) % 2 ^ 64

bits-are : (xs : List ℕ) → length xs ≡ 16 → bits xs ≡ mask_l (map is_other xs)
bits-are xs long = mask_l-mod (others xs) 64 (omega (arith, ap length (others-are xs long), length-map xs is_other, long)) ∙ ap mask_l (others-are xs long)

run-is : (xs : List ℕ) → length xs ≡ 16 → cond (eqb (bits xs) 0) 16 (count_trailing_zeros 64 (bits xs)) ≡ prefix_len (λ x. not (is_other x)) xs
run-is xs long = rw (bits-are xs long) (first_set_mask_l is_other xs 16 long (omega arith))

pub run-of-all : (xs : List ℕ) → length xs ≡ 16 → bits xs ≡ 0 → 16 ≡ prefix_len (λ x. not (is_other x)) xs
run-of-all xs long e = ap (λ t. cond t 16 (count_trailing_zeros 64 (bits xs))) (sym (eq-eqb _ _ e)) ∙ run-is xs long

pub run-of-some : (xs : List ℕ) → length xs ≡ 16 → ¬ (bits xs ≡ 0) → count_trailing_zeros 64 (bits xs) ≡ prefix_len (λ x. not (is_other x)) xs
run-of-some xs long e = ap (λ t. cond t 16 (count_trailing_zeros 64 (bits xs))) (sym (ne_eqb _ _ e)) ∙ run-is xs long

-- what is left in the range is plain
plain-rest : (x : ℕ) → x < 256 → eqb x 34 ≡ false → eqb x 92 ≡ false → ltb 94 ((x + (2 ^ 8 - 32)) % 2 ^ 8) ≡ false → is_plain x ≡ true
plain-rest x byte q s h = grind (arith, nat_tests)

quote-is-other : (x : ℕ) → eqb x 34 ≡ true → is_other x ≡ true
quote-is-other x q = ap (λ t. ltb 94 ((without 92 (cond t 0 x) + (2 ^ 8 - 32)) % 2 ^ 8)) q

slash-is-other : (x : ℕ) → eqb x 34 ≡ false → eqb x 92 ≡ true → is_other x ≡ true
slash-is-other x q s =
    ap (λ t. ltb 94 ((without 92 (cond t 0 x) + (2 ^ 8 - 32)) % 2 ^ 8)) q
    ∙ ap (λ t. ltb 94 ((cond t 0 x + (2 ^ 8 - 32)) % 2 ^ 8)) s

rest-is-compared : (x : ℕ) → eqb x 34 ≡ false → eqb x 92 ≡ false → is_other x ≡ ltb 94 ((x + (2 ^ 8 - 32)) % 2 ^ 8)
rest-is-compared x q s =
    ap (λ t. ltb 94 ((without 92 (cond t 0 x) + (2 ^ 8 - 32)) % 2 ^ 8)) q
    ∙ ap (λ t. ltb 94 ((cond t 0 x + (2 ^ 8 - 32)) % 2 ^ 8)) s

plain-by : (q s : Bool) (x : ℕ) → eqb x 34 ≡ q → eqb x 92 ≡ s → x < 256 → is_other x ≡ false → is_plain x ≡ true
plain-by true s x q b byte h = absurd (true≢false (sym (quote-is-other x q) ∙ h))
plain-by false true x q b byte h = absurd (true≢false (sym (slash-is-other x q b) ∙ h))
plain-by false false x q b byte h = plain-rest x byte q b (sym (rest-is-compared x q b) ∙ h)

pub plain-byte : (x : ℕ) → x < 256 → is_other x ≡ false → is_plain x ≡ true
plain-byte x byte h = plain-by (eqb x 34) (eqb x 92) x refl refl byte h

-- ---- texts

plain-take : (text : List ℕ) (n : ℕ) → n ≤ length text → ((k : ℕ) → k < n → is_plain (get_or text k 0) ≡ true) → are_plain (take n text) ≡ true
plain-take [] zero within h = refl
plain-take [] (suc n) within h = absurd (omega (arith, within))
plain-take (x ∷ text) zero within h = refl
plain-take (x ∷ text) (suc n) within h = rw (h 0 (omega arith)) (plain-take text n (omega (arith, within)) (λ k lt. h (suc k) (omega (arith, lt))))

-- plain bytes behind plain bytes
pub plain-more : (text : List ℕ) (i r : ℕ) → i + r ≤ length text → are_plain (take i text) ≡ true
    → ((k : ℕ) → i ≤ k → k < i + r → is_plain (get_or text k 0) ≡ true) → are_plain (take (i + r) text) ≡ true
plain-more text zero r within h run =
    let all : r ≡ 0 + r = omega arith in
    subst (λ n. are_plain (take n text) ≡ true) all (plain-take text r (omega (arith, within)) (λ k lt. run k (omega arith) (omega (arith, lt))))
plain-more [] (suc i) r within h run = absurd (omega (arith, within))
plain-more (x ∷ text) (suc i) r within h run =
    let p = and_parts (is_plain x) (are_plain (take i text)) h in
    let all : suc (i + r) ≡ suc i + r = omega arith in
    let rest = plain-more text i r (omega (arith, within)) p.1 (λ k le lt. run (suc k) (omega (arith, le)) (omega (arith, lt))) in
    subst (λ n. are_plain (take n (x ∷ text)) ≡ true) all (rw p.0 rest)
