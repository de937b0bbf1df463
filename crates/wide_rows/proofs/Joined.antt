-- Lists of rows joined: what holds of each is what holds of all.
use Rattle.std.specs.Prelude.{All}
use Rattle.std.specs.List.{slice_get}
use Rattle.std.proofs.Common.{◌≡◌, ◌≢◌, ℕ, zero, suc, ◌+◌, ◌-◌, ◌*◌, ◌<◌, ◌≤◌, true, false, cond, is_some, List, [], ◌∷◌, ◌++◌, length, get_or, Option, Some, refl, sym, ap, subst, ◌∙◌, inl, inr, arith, append_assoc, length-append}
use Rattle.std.proofs.lemmas.Bool.{cases_lt, cases_eq}
use Rattle.std.proofs.lemmas.List.Elements.{All-nil, All-append, All-head}
use Rattle.std.proofs.lemmas.List.{get_or_append_left, get_or-append_right}
use Rattle.std.proofs.lemmas.Option.{slice_get_within, get_or_from_slice_get}
use Rattle.market_types.specs.declared.row.Row.{Row}
use Rattle.market_types.specs.Rows.{IsNewestFirst, requests, first_mandated}
use Rattle.market_types.proofs.RowOrder.{all-front, all-back, newest-tail}
use Rattle.wide_rows.specs.Joined.{joined_below}
use Rattle.wide_rows.specs.Storeys.{has_mandated, block_rows}
use Rattle.wide_rows.proofs.Sums.{added, requests_joined}

-- ---- all rows

pub all_joined : (P : Row → Type 0) (r : ℕ → List Row) (n : ℕ) → ((k : ℕ) → k < n → All P (r k)) → All P (joined_below r n)
all_joined P r zero h = All-nil P
all_joined P r (suc n) h = All-append P (r n) (joined_below r n) (h n (omega arith)) (all_joined P r n (λ k l. h k (omega arith)))

pub all_of_joined : (P : Row → Type 0) (r : ℕ → List Row) (n k : ℕ) → k < n → All P (joined_below r n) → All P (r k)
all_of_joined P r zero k l a = absurd (omega arith)
all_of_joined P r (suc n) k l a = elim (cases_eq k n) [
  | inl e ↦ subst (λ (j : ℕ). All P (r j)) (sym e) (all-front P (r n) (joined_below r n) a)
  | inr ne ↦ all_of_joined P r n k (omega arith) (all-back P (r n) (joined_below r n) a)
]

pub all_get : (P : Row → Type 0) (l : List Row) (i : ℕ) (x : Row) → All P l → slice_get l i ≡ Some x → P x
all_get P l i x a e = subst P (get_or_from_slice_get l i x x e) (a i x (slice_get_within l i x e))

-- ---- lists that are the same

pub joined-same : (r t : ℕ → List Row) (n : ℕ) → ((k : ℕ) → k < n → r k ≡ t k) → joined_below r n ≡ joined_below t n
joined-same r t zero h = refl
joined-same r t (suc n) h = ap (λ l. l ++ joined_below r n) (h n (omega arith)) ∙ ap (λ l. t n ++ l) (joined-same r t n (λ k l. h k (omega arith)))

-- places without rows at the end
pub joined-free : (r : ℕ → List Row) (n m : ℕ) → n ≤ m → ((k : ℕ) → n ≤ k → k < m → r k ≡ []) → joined_below r m ≡ joined_below r n
joined-free r n zero l h = ap (joined_below r) (let e : zero ≡ n = omega arith in e)
joined-free r n (suc m) l h = elim (cases_lt m n) [
  | inl last ↦ ap (joined_below r) (let e : suc m ≡ n = omega arith in e)
  | inr more ↦ ap (λ l. l ++ joined_below r m) (h m more (omega arith)) ∙ joined-free r n m more (λ k p q. h k p (omega arith))
]

pub joined-plus : (r : ℕ → List Row) (m n : ℕ) → joined_below r (m + n) ≡ joined_below (λ k. r (m + k)) n ++ joined_below r m
joined-plus r m zero = ap (joined_below r) (let e : m + zero ≡ m = omega arith in e)
joined-plus r m (suc n) =
    ap (joined_below r) (let e : m + suc n ≡ suc (m + n) = omega arith in e)
    ∙ ap (λ l. r (m + n) ++ l) (joined-plus r m n)
    ∙ sym (append_assoc (r (m + n)) (joined_below (λ k. r (m + k)) n) (joined_below r m))

-- blocks of 16 places
pub joined-blocks : (r : ℕ → List Row) (n : ℕ) → joined_below (block_rows r) n ≡ joined_below r (16 * n)
joined-blocks r zero = refl
joined-blocks r (suc n) =
    ap (λ l. block_rows r n ++ l) (joined-blocks r n)
    ∙ sym (joined-plus r (16 * n) 16)
    ∙ ap (joined_below r) (let e : 16 * n + 16 ≡ 16 * suc n = omega arith in e)

-- ---- sums over them

pub length_joined : (r : ℕ → List Row) (n : ℕ) → length (joined_below r n) ≡ added (λ k. length (r k)) n
length_joined r zero = refl
length_joined r (suc n) = omega (arith, length-append (r n) (joined_below r n), length_joined r n)

-- one place's part of a sum
pub added-part : (g : ℕ → ℕ) (n i : ℕ) → i < n → g i ≤ added g n
added-part g zero i l = absurd (omega arith)
added-part g (suc n) i l = elim (cases_eq i n) [
  | inl e ↦ omega (arith, ap g e)
  | inr ne ↦ omega (arith, added-part g n i (omega arith))
]

-- the first places' part of it
pub added-front : (g : ℕ → ℕ) (n m : ℕ) → n ≤ m → added g n ≤ added g m
added-front g n zero l = omega (arith, ap (added g) (let e : n ≡ zero = omega arith in e))
added-front g n (suc m) l = elim (cases_eq n (suc m)) [
  | inl e ↦ omega (arith, ap (added g) e)
  | inr ne ↦ omega (arith, added-front g n m (omega arith))
]

-- a change at one place
pub added-put : (f g : ℕ → ℕ) (n i : ℕ) → i < n → ((k : ℕ) → k ≢ i → g k ≡ f k) → added g n + f i ≡ added f n + g i
added-put f g zero i l h = absurd (omega arith)
added-put f g (suc n) i l h = elim (cases_eq i n) [
  | inl e ↦ omega (arith, same-below n (omega arith), ap f e, ap g e)
  | inr ne ↦ omega (arith, added-put f g n i (omega arith) h, h n (λ e. ne (sym e)))
]
  where
    same-below : (m : ℕ) → m ≤ i → added g m ≡ added f m
    same-below zero l = refl
    same-below (suc m) l = omega (arith, same-below m (omega arith), h m (omega arith))

-- ---- mandates

pub first-append : (l m : List Row) → first_mandated (l ++ m) ≡ cond (has_mandated l) (first_mandated l) (first_mandated m)
first-append [] m = refl
first-append (x ∷ l) m =
    elim x.mandated as (λ b. cond b (Some x) (first_mandated (l ++ m)) ≡ cond (is_some (cond b (Some x) (first_mandated l))) (cond b (Some x) (first_mandated l)) (first_mandated m)) [
      | true ↦ refl
      | false ↦ first-append l m
    ]

first_there : (l m : List Row) → has_mandated l ≡ true → first_mandated (l ++ m) ≡ first_mandated l
first_there l m e = first-append l m ∙ ap (λ b. cond b (first_mandated l) (first_mandated m)) e

first_later : (l m : List Row) → has_mandated l ≡ false → first_mandated (l ++ m) ≡ first_mandated m
first_later l m e = first-append l m ∙ ap (λ b. cond b (first_mandated l) (first_mandated m)) e

pub first_joined : (r : ℕ → List Row) (n i : ℕ) → i < n → has_mandated (r i) ≡ true → ((k : ℕ) → i < k → k < n → has_mandated (r k) ≡ false) → first_mandated (joined_below r n) ≡ first_mandated (r i)
first_joined r zero i l here newer = absurd (omega arith)
first_joined r (suc n) i l here newer = elim (cases_eq i n) [
  | inl e ↦ subst (λ (j : ℕ). first_mandated (joined_below r (suc n)) ≡ first_mandated (r j)) (sym e) (first_there (r n) (joined_below r n) (ap (λ j. has_mandated (r j)) (sym e) ∙ here))
  | inr ne ↦ first_later (r n) (joined_below r n) (newer n (omega arith) (omega arith)) ∙ first_joined r n i (omega arith) here (λ k p q. newer k p (omega arith))
]

pub none_joined : (r : ℕ → List Row) (n : ℕ) → ((k : ℕ) → k < n → has_mandated (r k) ≡ false) → has_mandated (joined_below r n) ≡ false
none_joined r zero h = refl
none_joined r (suc n) h = ap (λ (o : Option Row). is_some o) (first_later (r n) (joined_below r n) (h n (omega arith))) ∙ none_joined r n (λ k l. h k (omega arith))

-- ---- rows by their index

pub get_later : (l m : List Row) (i j : ℕ) → i ≡ length l + j → slice_get (l ++ m) i ≡ slice_get m j
get_later [] m i j e = ap (slice_get m) (let z : i ≡ j = omega arith in z)
get_later (x ∷ l) m zero j e = absurd (omega arith)
get_later (x ∷ l) m (suc i) j e = get_later l m i j (omega arith)

-- ---- order

-- the rows of the second list are older than any of the first
pub newest-apart : (l m : List Row) (i : ℕ) (x : Row) → IsNewestFirst (l ++ m) → slice_get l i ≡ Some x → All (λ y. y.stamp < x.stamp) m
newest-apart l m i x d e = λ k z h.
    let within : i < length l = slice_get_within l i x e in
    let first : get_or (l ++ m) i z ≡ x = get_or_append_left l m z i within ∙ get_or_from_slice_get l i x z e in
    let second : get_or (l ++ m) (length l + k) z ≡ get_or m k z = get_or-append_right l m (length l) (length l + k) z refl (omega arith) ∙ ap (λ j. get_or m j z) (let q : length l + k - length l ≡ k = omega arith in q) in
    let t = d i (length l + k) z (omega arith) (omega (arith, length-append l m)) in
    omega (arith, t, ap (λ (y : Row). y.stamp) first, ap (λ (y : Row). y.stamp) second)

-- the second list
pub newest-back : (l m : List Row) → IsNewestFirst (l ++ m) → IsNewestFirst m
newest-back [] m d = d
newest-back (x ∷ l) m d = newest-back l m (newest-tail x (l ++ m) d)

-- the last row is the oldest
pub last_least : (l : List Row) (i : ℕ) (x : Row) → IsNewestFirst l → i + 1 ≡ length l → slice_get l i ≡ Some x → All (λ y. x.stamp ≤ y.stamp) l
last_least l i x d last e = λ k z h.
    let at : get_or l i z ≡ x = get_or_from_slice_get l i x z e in
    elim (cases_eq k i) [
      | inl same ↦ omega (arith, ap (λ (y : Row). y.stamp) at, ap (λ j. (get_or l j z).stamp) same)
      | inr ne ↦ let t = d k i z (omega arith) (omega arith) in omega (arith, t, ap (λ (y : Row). y.stamp) at)
    ]

-- a list among joined ones
pub newest_of_joined : (r : ℕ → List Row) (n k : ℕ) → k < n → IsNewestFirst (joined_below r n) → IsNewestFirst (joined_below r (suc k))
newest_of_joined r zero k l d = absurd (omega arith)
newest_of_joined r (suc n) k l d = elim (cases_eq k n) [
  | inl e ↦ subst (λ (j : ℕ). IsNewestFirst (joined_below r (suc j))) (sym e) d
  | inr ne ↦ newest_of_joined r n k (omega arith) (newest-back (r n) (joined_below r n) d)
]

-- the newest place apart
pub split_newest : (r : ℕ → List Row) (p : ℕ) → 0 < p → joined_below r p ≡ r (p - 1) ++ joined_below r (p - 1)
split_newest r p l = ap (joined_below r) (let e : p ≡ suc (p - 1) = omega arith in e)

-- a number below another, where rows stand between
pub between : (low high : ℕ) (l : List Row) → 0 < length l → All (λ row. low ≤ row.stamp) l → All (λ row. row.stamp < high) l → low < high
between low high [] some a b = absurd (omega arith)
between low high (x ∷ l) some a b = omega (arith, All-head (λ (row : Row). low ≤ row.stamp) x l a, All-head (λ (row : Row). row.stamp < high) x l b)

-- one place's part of a sum over all
pub requests-part : (r : ℕ → List Row) (n k : ℕ) → k < n → requests (r k) ≤ requests (joined_below r n)
requests-part r n k l = omega (arith, requests_joined r n, added-part (λ i. requests (r i)) n k l)

pub length-part : (r : ℕ → List Row) (n k : ℕ) → k < n → length (r k) ≤ length (joined_below r n)
length-part r n k l = omega (arith, length_joined r n, added-part (λ i. length (r i)) n k l)
