-- The sums of columns, against those of the rows in them.
use Rattle.std.specs.List.{zip}
use Rattle.std.specs.Prelude.{filter}
use Rattle.std.proofs.Common.{◌≡◌, ◌≢◌, ℕ, zero, suc, ◌+◌, ◌<◌, ◌≤◌, Bool, true, false, cond, ltb, List, [], ◌∷◌, ◌++◌, length, get_or, take, sum_by, refl, sym, ap, ◌∙◌, inl, inr, arith}
use Rattle.std.proofs.lemmas.List.{take_more, take_all, length-take}
use Rattle.std.proofs.lemmas.Bool.{cases_lt}
use Rattle.std.proofs.lemmas.List.Sums.{sum_by-cons, sum_by-append}
use Rattle.std.proofs.lemmas.List.Elements.{filter-append}
use Rattle.market_types.specs.declared.row.Row.{Row}
use Rattle.market_types.specs.Rows.{requests, requests_above}
use Rattle.market_types.proofs.RowReadings.{requests-cons, requests-append}
use Rattle.wide_rows.specs.Columns.{sum_above, total}
use Rattle.wide_rows.specs.Leaves.{rows_below}
use Rattle.wide_rows.specs.Joined.{joined_below}

-- ---- a sum over places

abbrev pub added : (ℕ → ℕ) → ℕ → ℕ
added g zero = 0
added g (suc n) = added g n + g n

pub added-same : (f g : ℕ → ℕ) (n : ℕ) → ((i : ℕ) → i < n → f i ≡ g i) → added f n ≡ added g n
added-same f g zero h = refl
added-same f g (suc n) h = omega (arith, added-same f g n (λ i l. h i (omega arith)), h n (omega arith))

-- the places from n on give nothing
pub added-free : (g : ℕ → ℕ) (n m : ℕ) → n ≤ m → ((i : ℕ) → n ≤ i → g i ≡ 0) → added g m ≡ added g n
added-free g n zero l h = ap (added g) (let e : zero ≡ n = omega arith in e)
added-free g n (suc m) l h = elim (cases_lt m n) [
  | inl last ↦ ap (added g) (let e : suc m ≡ n = omega arith in e)
  | inr more ↦ omega (arith, added-free g n m more h, h m more)
]

-- two sums that differ at one place
pub added-but : (f g : ℕ → ℕ) (n i : ℕ) → i < n → f i ≡ 0 → ((k : ℕ) → k < n → k ≢ i → g k ≡ f k) → added g n ≡ added f n + g i
added-but f g zero i l e h = absurd (omega arith)
added-but f g (suc n) i l e h = elim (cases_lt i n) [
  | inl below ↦ omega (arith, added-but f g n i below e (λ k m. h k (omega arith)), h n (omega arith) (omega arith))
  | inr top ↦ (let same : n ≡ i = omega arith in
      omega (arith, added-same g f n (λ k m. h k (omega arith) (omega arith)), ap f same, ap g same, e))
]

-- ---- columns

zip-append : (xs ys us vs : List ℕ) → length xs ≡ length ys → zip (xs ++ us) (ys ++ vs) ≡ zip xs ys ++ zip us vs
zip-append [] [] us vs e = refl
zip-append [] (y ∷ ys) us vs e = absurd (omega arith)
zip-append (x ∷ xs) [] us vs e = absurd (omega arith)
zip-append (x ∷ xs) (y ∷ ys) us vs e = ap (λ l. (x, y) ∷ l) (zip-append xs ys us vs (omega arith))

one_above : (b : Bool) (k x : ℕ) → sum_by (λ (lane : ℕ × ℕ). lane.1) (cond b ((k, x) ∷ []) []) ≡ cond b x 0
one_above true k x = omega (arith, sum_by-cons (λ (lane : ℕ × ℕ). lane.1) (k, x) [])
one_above false k x = refl

above-more : (s k x : ℕ) (keys sums : List ℕ) → length keys ≡ length sums → sum_above s (keys ++ k ∷ []) (sums ++ x ∷ []) ≡ sum_above s keys sums + cond (ltb s k) x 0
above-more s k x keys sums e =
    ap (λ l. sum_by (λ (lane : ℕ × ℕ). lane.1) (filter (λ lane. ltb s lane.0) l)) (zip-append keys sums (k ∷ []) (x ∷ []) e)
    ∙ ap (λ l. sum_by (λ (lane : ℕ × ℕ). lane.1) l) (filter-append (λ (lane : ℕ × ℕ). ltb s lane.0) (zip keys sums) ((k, x) ∷ []))
    ∙ sum_by-append (λ (lane : ℕ × ℕ). lane.1) (filter (λ (lane : ℕ × ℕ). ltb s lane.0) (zip keys sums)) (cond (ltb s k) ((k, x) ∷ []) [])
    ∙ ap (λ n. sum_above s keys sums + n) (one_above (ltb s k) k x)

total-more : (x : ℕ) (sums : List ℕ) → total (sums ++ x ∷ []) ≡ total sums + x
total-more x sums = omega (arith, sum_by-append (λ (y : ℕ). y) sums (x ∷ []), sum_by-cons (λ (y : ℕ). y) x [])

total_to : (sums : List ℕ) (i : ℕ) → i ≤ length sums → total (take i sums) ≡ added (λ k. get_or sums k 0) i
total_to sums zero l = refl
total_to sums (suc i) l =
    ap (λ j. total (take j sums)) (let e : suc i ≡ i + 1 = omega arith in e) ∙ ap total (take_more sums i 0 l) ∙ total-more (get_or sums i 0) (take i sums)
    ∙ ap (λ n. n + get_or sums i 0) (total_to sums i (omega arith))

-- a column's sum by its places
pub total_added : (sums : List ℕ) → total sums ≡ added (λ k. get_or sums k 0) (length sums)
total_added sums = sym (ap total (take_all (length sums) sums (omega arith))) ∙ total_to sums (length sums) (omega arith)

-- what the lane at a place adds to the sum above a stamp
abbrev pub lane_above : ℕ → List ℕ → List ℕ → ℕ → ℕ
lane_above s keys sums k = cond (ltb s (get_or keys k 0)) (get_or sums k 0) 0

above_to : (s : ℕ) (keys sums : List ℕ) → length keys ≡ length sums → (i : ℕ) → i ≤ length sums → sum_above s (take i keys) (take i sums) ≡ added (lane_above s keys sums) i
above_to s keys sums e zero l = refl
above_to s keys sums e (suc i) l =
    ap (λ j. sum_above s (take j keys) (take j sums)) (let z : suc i ≡ i + 1 = omega arith in z)
    ∙ ap (λ k. sum_above s k (take (i + 1) sums)) (take_more keys i 0 (omega (arith, e)))
    ∙ ap (λ x. sum_above s (take i keys ++ get_or keys i 0 ∷ []) x) (take_more sums i 0 l)
    ∙ above-more s (get_or keys i 0) (get_or sums i 0) (take i keys) (take i sums) (omega (arith, length-take i keys, length-take i sums, e))
    ∙ ap (λ n. n + lane_above s keys sums i) (above_to s keys sums e i (omega arith))

-- the sum above a stamp by its places
pub above_added : (s : ℕ) (keys sums : List ℕ) → length keys ≡ length sums → sum_above s keys sums ≡ added (lane_above s keys sums) (length sums)
above_added s keys sums e =
    sym (ap (λ k. sum_above s k (take (length sums) sums)) (take_all (length sums) keys (omega (arith, e))) ∙ ap (λ x. sum_above s keys x) (take_all (length sums) sums (omega arith)))
    ∙ above_to s keys sums e (length sums) (omega arith)

-- ---- rows in lanes

row_above : (b : Bool) (x : Row) (l : List Row) → requests (cond b (x ∷ l) l) ≡ requests l + cond b x.request 0
row_above true x l = omega (arith, requests-cons x l)
row_above false x l = omega arith

requests_rows : (f : ℕ → Row) (n : ℕ) → requests (rows_below f n) ≡ added (λ i. (f i).request) n
requests_rows f zero = refl
requests_rows f (suc n) = omega (arith, requests-cons (f n) (rows_below f n), requests_rows f n)

above_rows : (s : ℕ) (f : ℕ → Row) (n : ℕ) → requests_above s (rows_below f n) ≡ added (λ i. cond (ltb s (f i).stamp) (f i).request 0) n
above_rows s f zero = refl
above_rows s f (suc n) = row_above (ltb s (f n).stamp) (f n) _ ∙ ap (λ k. k + cond (ltb s (f n).stamp) (f n).request 0) (above_rows s f n)

no_lane : (b : Bool) (x : ℕ) → x ≡ 0 → cond b x 0 ≡ 0
no_lane true x e = e
no_lane false x e = refl

module _ (f : ℕ → Row) (keys sums : List ℕ) (n : ℕ)
    (beside : length keys ≡ length sums) (room : n ≤ length sums)
    (stamps : (i : ℕ) → i < n → (f i).stamp ≡ get_or keys i 0) (asked : (i : ℕ) → i < n → (f i).request ≡ get_or sums i 0)
    (free : (i : ℕ) → n ≤ i → get_or sums i 0 ≡ 0) where
  pub above_is : (s : ℕ) → sum_above s keys sums ≡ requests_above s (rows_below f n)
  above_is s =
      above_added s keys sums beside ∙ added-free (lane_above s keys sums) n (length sums) room (λ i l. no_lane (ltb s (get_or keys i 0)) (get_or sums i 0) (free i l))
      ∙ added-same _ _ n (λ i l. rw (sym (stamps i l), sym (asked i l)) refl) ∙ sym (above_rows s f n)

  pub total_is : total sums ≡ requests (rows_below f n)
  total_is = total_added sums ∙ added-free _ n (length sums) room free ∙ added-same _ _ n (λ i l. sym (asked i l)) ∙ sym (requests_rows f n)

-- ---- lists joined

pub requests_joined : (r : ℕ → List Row) (n : ℕ) → requests (joined_below r n) ≡ added (λ i. requests (r i)) n
requests_joined r zero = refl
requests_joined r (suc n) = omega (arith, requests-append (r n) (joined_below r n), requests_joined r n)

pub above_joined : (s : ℕ) (r : ℕ → List Row) (n : ℕ) → requests_above s (joined_below r n) ≡ added (λ i. requests_above s (r i)) n
above_joined s r zero = refl
above_joined s r (suc n) =
    ap requests (filter-append (λ (y : Row). ltb s y.stamp) (r n) (joined_below r n))
    ∙ omega (arith, requests-append (filter (λ (y : Row). ltb s y.stamp) (r n)) (filter (λ (y : Row). ltb s y.stamp) (joined_below r n)), above_joined s r n)
