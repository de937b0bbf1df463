-- Rows of the first lanes, told by the lane.
use Rattle.std.specs.List.{slice_get, find}
use Rattle.std.specs.Prelude.{All}
use Rattle.std.proofs.Common.{◌≡◌, ◌≢◌, ℕ, zero, suc, ◌-◌, ◌<◌, ◌≤◌, Bool, true, false, cond, not, eqb, ◌∷◌, map, length, refl, sym, ap, subst, ◌∙◌, inl, inr, arith, Some, None, eq-eqb}
use Rattle.std.proofs.lemmas.Bool.{ne_eqb, cases_lt, cases_eq}
use Rattle.std.proofs.lemmas.List.Elements.{All-nil, All-cons, All-head, All-tail}
use Rattle.market_types.specs.declared.row.Row.{Row}
use Rattle.market_types.specs.Rows.{IsNewestFirst, IsAbsent, without, set_if, set_row}
use Rattle.market_types.proofs.RowOrder.{newest-head, newest-tail}
use Rattle.market_types.proofs.RowReadings.{filter-all}
use Rattle.market_types.proofs.RowChanges.{set_if-other, set_if-same}
use Rattle.wide_rows.specs.Leaves.{rows_below}

-- as many rows as lanes
pub length-rows : (f : ℕ → Row) (n : ℕ) → length (rows_below f n) ≡ n
length-rows f zero = refl
length-rows f (suc n) = ap suc (length-rows f n)

-- the same lanes, the same rows
pub rows-same : (f g : ℕ → Row) (n : ℕ) → ((i : ℕ) → i < n → f i ≡ g i) → rows_below f n ≡ rows_below g n
rows-same f g zero h = refl
rows-same f g (suc n) h = ap (λ x. x ∷ rows_below f n) (h n (omega arith)) ∙ ap (λ l. g n ∷ l) (rows-same f g n (λ i l. h i (omega arith)))

-- each row changed by h
pub rows-map : (h : Row → Row) (f g : ℕ → Row) (n : ℕ) → ((i : ℕ) → i < n → h (f i) ≡ g i) → map h (rows_below f n) ≡ rows_below g n
rows-map h f g zero e = refl
rows-map h f g (suc n) e = ap (λ x. x ∷ map h (rows_below f n)) (e n (omega arith)) ∙ ap (λ l. g n ∷ l) (rows-map h f g n (λ i l. e i (omega arith)))

-- what holds of all rows holds of each lane
pub all-lanes : (P : Row → Type 0) (f : ℕ → Row) (n : ℕ) → All P (rows_below f n) → (i : ℕ) → i < n → P (f i)
all-lanes P f zero a i l = absurd (omega arith)
all-lanes P f (suc n) a i l = elim (cases_lt i n) [
  | inl below ↦ all-lanes P f n (All-tail P (f n) (rows_below f n) a) i below
  | inr top ↦ subst (λ (k : ℕ). P (f k)) (let e : n ≡ i = omega arith in e) (All-head P (f n) (rows_below f n) a)
]

-- and the other way
pub lanes-all : (P : Row → Type 0) (f : ℕ → Row) (n : ℕ) → ((i : ℕ) → i < n → P (f i)) → All P (rows_below f n)
lanes-all P f zero h = All-nil P
lanes-all P f (suc n) h = All-cons P (f n) (rows_below f n) (h n (omega arith)) (lanes-all P f n (λ i l. h i (omega arith)))

-- the stamps rise
pub rising : (f : ℕ → Row) (n : ℕ) → IsNewestFirst (rows_below f n) → (i j : ℕ) → i < j → j < n → (f i).stamp < (f j).stamp
rising f zero d i j l m = absurd (omega arith)
rising f (suc n) d i j l m = elim (cases_lt j n) [
  | inl below ↦ rising f n (newest-tail (f n) (rows_below f n) d) i j l below
  | inr top ↦ subst (λ (k : ℕ). (f i).stamp < (f k).stamp) (let e : n ≡ j = omega arith in e) (all-lanes (λ y. y.stamp < (f n).stamp) f n (newest-head (f n) (rows_below f n) d) i (omega arith))
]

-- so no two are the same
pub distinct : (f : ℕ → Row) (n : ℕ) → IsNewestFirst (rows_below f n) → (s i : ℕ) → i < n → (f i).stamp ≡ s → (k : ℕ) → k < n → k ≢ i → (f k).stamp ≢ s
distinct f n d s i l e k m ne same = elim (cases_lt k i) [
  | inl below ↦ (let h = rising f n d k i below l in absurd (omega arith))
  | inr above ↦ (let h = rising f n d i k (omega (arith, ne)) m in absurd (omega arith))
]

-- ---- the row at an index

pub get-row : (f : ℕ → Row) (n k : ℕ) → k < n → slice_get (rows_below f n) k ≡ Some (f (n - 1 - k))
get-row f zero k l = absurd (omega arith)
get-row f (suc n) zero l = ap (λ i. Some (f i)) (let e : n ≡ suc n - 1 - zero = omega arith in e)
get-row f (suc n) (suc k) l = get-row f n k (omega arith) ∙ ap (λ i. Some (f i)) (let e : n - 1 - k ≡ suc n - 1 - suc k = omega arith in e)

pub get-none : (f : ℕ → Row) (n k : ℕ) → n ≤ k → slice_get (rows_below f n) k ≡ None
get-none f zero k l = refl
get-none f (suc n) zero l = absurd (omega arith)
get-none f (suc n) (suc k) l = get-none f n k (omega arith)

-- ---- the first row that passes p

pub find-lane : (p : Row → Bool) (f : ℕ → Row) (n i : ℕ) → i < n → p (f i) ≡ true → ((k : ℕ) → i < k → k < n → p (f k) ≡ false) → find p (rows_below f n) ≡ Some (f i)
find-lane p f zero i l e h = absurd (omega arith)
find-lane p f (suc n) i l e h = elim (cases_lt i n) [
  | inl below ↦ rw (h n below (omega arith)) (find-lane p f n i below e (λ k m w. h k m (omega arith)))
  | inr top ↦ (let same : n ≡ i = omega arith in
      ap (λ b. cond b (Some (f n)) (find p (rows_below f n))) (ap (λ k. p (f k)) same ∙ e) ∙ ap (λ k. Some (f k)) same)
]

pub find-none : (p : Row → Bool) (f : ℕ → Row) (n : ℕ) → ((k : ℕ) → k < n → p (f k) ≡ false) → find p (rows_below f n) ≡ None
find-none p f zero h = refl
find-none p f (suc n) h = rw (h n (omega arith)) (find-none p f n (λ k l. h k (omega arith)))

-- ---- one row set

pub set-lane : (f g : ℕ → Row) (n s q : ℕ) (m : Bool) (i : ℕ) → IsNewestFirst (rows_below f n) → i < n → (f i).stamp ≡ s
    → g i ≡ record (f i) { request = q; mandated = m } → ((k : ℕ) → k < n → k ≢ i → g k ≡ f k) → rows_below g n ≡ set_row s q m (rows_below f n)
set-lane f g n s q m i d l e here others = sym (rows-map (set_if s q m) f g n (λ k w. elim (cases_eq k i) [
  | inl same ↦ ap (λ (j : ℕ). set_if s q m (f j)) same ∙ set_if-same s q m (f i) e ∙ sym here ∙ ap g (sym same)
  | inr other ↦ set_if-other s q m (f k) (distinct f n d s i l e k w other) ∙ sym (others k w other)
]))

-- ---- one row taken out

pub without-all : (s : ℕ) (f : ℕ → Row) (n : ℕ) → ((k : ℕ) → k < n → (f k).stamp ≢ s) → without s (rows_below f n) ≡ rows_below f n
without-all s f n h = filter-all (λ y. not (eqb y.stamp s)) (rows_below f n) (lanes-all (λ y. not (eqb y.stamp s) ≡ true) f n (λ k l. ap not (ne_eqb (f k).stamp s (h k l))))

pub without-lane : (f g : ℕ → Row) (n s i : ℕ) → i ≤ n → (f i).stamp ≡ s → ((k : ℕ) → k ≤ n → k ≢ i → (f k).stamp ≢ s)
    → ((k : ℕ) → k < n → k < i → g k ≡ f k) → ((k : ℕ) → k < n → i ≤ k → g k ≡ f (suc k)) → rows_below g n ≡ without s (rows_below f (suc n))
without-lane f g zero s i l e ne low high = sym (rw (eq-eqb (f 0).stamp s (ap (λ (k : ℕ). (f k).stamp) (let z : 0 ≡ i = omega arith in z) ∙ e)) refl)
without-lane f g (suc n) s i l e ne low high = elim (cases_lt i (suc n)) [
  | inl below ↦
      rw (ne_eqb (f (suc n)).stamp s (ne (suc n) (omega arith) (omega arith)))
      (ap (λ x. x ∷ rows_below g n) (high n (omega arith) (omega arith))
      ∙ ap (λ l. f (suc n) ∷ l) (without-lane f g n s i (omega arith) e (λ k w. ne k (omega arith)) (λ k w. low k (omega arith)) (λ k w. high k (omega arith))))
  | inr top ↦ (let same : suc n ≡ i = omega arith in
      rw (eq-eqb (f (suc n)).stamp s (ap (λ (k : ℕ). (f k).stamp) same ∙ e))
      (rows-same g f (suc n) (λ k w. low k w (omega arith)) ∙ sym (without-all s f (suc n) (λ k w. ne k (omega arith) (omega arith)))))
]

-- a stamp that no lane has
pub absent : (f : ℕ → Row) (n s : ℕ) → ((k : ℕ) → k < n → (f k).stamp ≢ s) → IsAbsent s (rows_below f n)
absent f n s h = lanes-all (λ y. y.stamp ≢ s) f n h
