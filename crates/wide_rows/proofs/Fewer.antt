-- Leaves of which one has lost a row, and then becomes one with a neighbour.
use Rattle.std.specs.declared.alloc.Global.{Global}
use Rattle.std.proofs.Common.{◌≡◌, ◌≢◌, ℕ, zero, suc, ◌+◌, ◌-◌, ◌/◌, ◌<◌, ◌≤◌, cond, not, eq-eqb, List, Some, None, [], ◌∷◌, ◌++◌, length, set, Box, refl, sym, ap, subst, ◌∙◌, inl, inr, arith, length-append, append_assoc}
use Rattle.std.proofs.lemmas.Bool.{cases_lt, cases_eq, ne_eqb}
use Rattle.std.proofs.lemmas.List.{length-set}
use Rattle.market_types.specs.declared.row.Row.{Row}
use Rattle.market_types.specs.Rows.{IsNewestFirst, HasLowRequests, row_at, without}
use Rattle.market_types.proofs.RowOrder.{newest-front}
use Rattle.wide_rows.specs.Joined.{joined_below, IsAt}
use Rattle.wide_rows.specs.Shelves.{rows_of, leaf_at, AreLeaves, StandsAlone, FitTogether}
use Rattle.wide_rows.specs.Storeys.{IsBlock, IsIndexed, block_at}
use Rattle.wide_rows.specs.declared.storeys.Storeys.{Storeys}
use Rattle.wide_rows.proofs.Joined.{joined-same, newest_of_joined}
use Rattle.wide_rows.proofs.OfShelves.{rows_joined}
use Rattle.wide_rows.proofs.TwoStoreys.{block-same}
use Rattle.wide_rows.proofs.Edits.{leaves_put, rows_put, others_put, here_put, rows_without, ordered_now, low_now, few_now, one_less}

-- two places become one
joined_merged : (u t : ℕ → List Row) (p n : ℕ) → p < n → ((k : ℕ) → k < p → t k ≡ u k) → t p ≡ u (p + 1) ++ u p → ((k : ℕ) → p < k → t k ≡ u (k + 1)) → joined_below t n ≡ joined_below u (suc n)
joined_merged u t p zero l before here behind = absurd (omega arith)
joined_merged u t p (suc n) l before here behind = elim (cases_eq n p) [
  | inl e ↦ subst (λ (j : ℕ). joined_below t (suc j) ≡ joined_below u (suc (suc j))) (sym e) (
      ap (λ l. l ++ joined_below t p) (here ∙ ap (λ j. u j ++ u p) (let z : p + 1 ≡ suc p = omega arith in z))
      ∙ append_assoc (u (suc p)) (u p) (joined_below t p)
      ∙ ap (λ l. u (suc p) ++ (u p ++ l)) (joined-same t u p before))
  | inr ne ↦
      ap (λ l. l ++ joined_below t n) (behind n (omega (arith, ne)) ∙ ap u (let z : n + 1 ≡ suc n = omega arith in z))
      ∙ ap (λ l. u (suc n) ++ l) (joined_merged u t p n (omega (arith, ne)) before here behind)
]

module _ (xs : List (Box (List Row) Global)) (h : AreLeaves xs) (i : ℕ) (b : Box (List Row) Global) (there : i < length xs) (s : ℕ) (at : IsAt s (leaf_at xs) (length xs) i)
    (is : b.value ≡ without s (leaf_at xs i)) where
  abbrev us : List (Box (List Row) Global)
  us = set xs i b

  -- it stays
  pub leaves_alone : StandsAlone us i → AreLeaves us
  leaves_alone alone = leaves_put xs h i b there
      (omega (arith, alone.some, here))
      (λ l. omega (arith, alone.right (omega (arith, length-set xs i b)), here, ap (λ (rows : List Row). length rows) (others_put xs h i b there (suc i) (omega arith))))
      (λ l. omega (arith, alone.left l, here, ap (λ (rows : List Row). length rows) (others_put xs h i b there (i - 1) (omega arith))))
      (ordered_now xs h i b there s at is) (low_now xs h i b there s at is) (few_now xs h i b there s at is)
    where
      here : length (leaf_at us i) ≡ length b.value
      here = ap (λ (rows : List Row). length rows) (here_put xs h i b there)

  -- or becomes one with a neighbour
  module _ (x : Row) (found : row_at s (leaf_at xs i) ≡ Some x) (p : ℕ) (fit : FitTogether us i p) where
    lost : length (leaf_at us i) + 1 ≡ length (leaf_at xs i)
    lost = omega (arith, (one_less xs h i b there s at is x found).1, ap (λ (rows : List Row). length rows) (here_put xs h i b there ∙ is))

    same : (k : ℕ) → k ≢ i → length (leaf_at us k) ≡ length (leaf_at xs k)
    same k ne = ap (λ (rows : List Row). length rows) (others_put xs h i b there k ne)

    long : length us ≡ length xs
    long = length-set xs i b

    -- they have 12 rows or more
    twelve : 12 ≤ length (leaf_at us p) + length (leaf_at us (suc p))
    twelve = elim (cases_eq p i) [
      | inl e ↦ omega (
        arith,
        h.apart p (omega (arith, fit.there, long)),
        ap (λ j. length (leaf_at us j)) e,
        ap (λ j. length (leaf_at xs j)) e,
        lost,
        same (suc p) (omega (arith, e)),
      )
      | inr ne ↦ (let z : suc p ≡ i = omega (arith, fit.from, fit.to, ne) in
          omega (arith, h.apart p (omega (arith, fit.there, long)), ap (λ j. length (leaf_at us j)) z, ap (λ j. length (leaf_at xs j)) z, lost, same p ne))
    ]

    pub newest_pair : IsNewestFirst (leaf_at us (p + 1) ++ leaf_at us p)
    newest_pair =
        let all = newest_of_joined (leaf_at us) (length us) (suc p) fit.there (subst IsNewestFirst (rows_joined us) (ordered_now xs h i b there s at is)) in
        newest-front (leaf_at us (p + 1) ++ leaf_at us p) (joined_below (leaf_at us) p)
        (subst IsNewestFirst (ap (λ j. leaf_at us j ++ (leaf_at us p ++ joined_below (leaf_at us) p)) (let z : suc p ≡ p + 1 = omega arith in z) ∙ sym (append_assoc (leaf_at us (p + 1)) (leaf_at us p) (joined_below (leaf_at us) p))) all)

    module _ (ts : List (Box (List Row) Global)) (less : length ts + 1 ≡ length us) (before : (k : ℕ) → k < p → leaf_at ts k ≡ leaf_at us k)
        (here : leaf_at ts p ≡ leaf_at us (p + 1) ++ leaf_at us p) (behind : (k : ℕ) → p < k → leaf_at ts k ≡ leaf_at us (k + 1)) where
      pub rows_merged : rows_of ts ≡ without s (rows_of xs)
      rows_merged =
          rows_joined ts ∙ joined_merged (leaf_at us) (leaf_at ts) p (length ts) (omega (arith, less, fit.there)) before here behind
          ∙ ap (joined_below (leaf_at us)) (let z : suc (length ts) ≡ length us = omega (arith, less) in z) ∙ sym (rows_joined us) ∙ rows_without xs h i b there s at is

      rows_now : rows_of us ≡ rows_of ts
      rows_now = rows_without xs h i b there s at is ∙ sym rows_merged

      size_here : length (leaf_at ts p) ≡ length (leaf_at us p) + length (leaf_at us (suc p))
      size_here = omega (arith, ap (λ (rows : List Row). length rows) here, length-append (leaf_at us (p + 1)) (leaf_at us p), ap (λ j. length (leaf_at us j)) (let z : p + 1 ≡ suc p = omega arith in z))

      size_before : (k : ℕ) → k < p → length (leaf_at ts k) ≡ length (leaf_at xs k)
      size_before k l = ap (λ (rows : List Row). length rows) (before k l) ∙ same k (omega (arith, fit.from))

      size_behind : (k : ℕ) → p < k → length (leaf_at ts k) ≡ length (leaf_at xs (suc k))
      size_behind k l = ap (λ (rows : List Row). length rows) (behind k l) ∙ ap (λ j. length (leaf_at us j)) (let z : k + 1 ≡ suc k = omega arith in z) ∙ same (suc k) (omega (arith, fit.to, l))

      pub leaves_merged : AreLeaves ts
      leaves_merged = record {
        some = λ k l. elim (cases_lt k p) [
          | inl below ↦ omega (arith, size_before k below, h.some k (omega (arith, less, long)))
          | inr g ↦ elim (cases_eq k p) [
            | inl e ↦ omega (arith, ap (λ j. length (leaf_at ts j)) e, size_here, twelve)
            | inr ne ↦ omega (arith, size_behind k (omega (arith, ne)), h.some (suc k) (omega (arith, less, long)))
          ]
        ];
        apart = λ k l. elim (cases_lt (suc k) p) [
          | inl below ↦ omega (arith, size_before k (omega arith), size_before (suc k) below, h.apart k (omega (arith, less, long)))
          | inr g ↦ elim (cases_eq (suc k) p) [
            | inl e ↦ omega (arith, size_before k (omega (arith, e)), h.some k (omega (arith, less, long)), ap (λ j. length (leaf_at ts j)) e, size_here, twelve)
            | inr ne ↦ elim (cases_eq k p) [
              | inl e ↦ omega (
                arith,
                ap (λ j. length (leaf_at ts j)) e,
                size_here,
                twelve,
                size_behind (suc k) (omega (arith, e)),
                h.some (suc (suc k)) (omega (arith, less, long)),
              )
              | inr other ↦ omega (arith, size_behind k (omega (arith, ne, other)), size_behind (suc k) (omega (arith, ne, other)), h.apart (suc k) (omega (arith, less, long)))
            ]
          ]
        ];
        ordered = subst IsNewestFirst rows_now (ordered_now xs h i b there s at is);
        low = subst HasLowRequests rows_now (low_now xs h i b there s at is);
        few = omega (arith, ap (λ (rows : List Row). length rows) rows_now, few_now xs h i b there s at is);
      }

      pub kept_merged : (m : Storeys) → IsIndexed m (leaf_at xs) (length xs) → (g : ℕ) → g < p / 16 → IsBlock (block_at m.blocks g) (leaf_at ts) (length ts) g
      kept_merged m d g l =
          block-same (block_at m.blocks g) (leaf_at xs) (leaf_at ts) (length xs) (length ts) g (omega (arith, fit.there, long)) (omega (arith, fit.there, less))
          (λ k q. before k (omega arith) ∙ others_put xs h i b there k (omega (arith, fit.from))) (d.blocks g (omega (arith, d.room, fit.there, long)))

-- a list that has no row of a stamp stays as it is without it
without_missing : (s : ℕ) (l : List Row) → row_at s l ≡ None → without s l ≡ l
without_missing s [] e = refl
without_missing s (y ∷ l) e = elim (cases_eq y.stamp s) [
  | inl z ↦ (let t : Some y ≡ None = sym (ap (λ c. cond c (Some y) (row_at s l)) (eq-eqb y.stamp s z)) ∙ e in cc)
  | inr ne ↦
      let t = ne_eqb y.stamp s ne in
      ap (λ c. cond (not c) (y ∷ without s l) (without s l)) t ∙ ap (λ rest. y ∷ rest) (without_missing s l (sym (ap (λ c. cond c (Some y) (row_at s l)) t) ∙ e))
]

module _ (xs : List (Box (List Row) Global)) (h : AreLeaves xs) (i : ℕ) (b : Box (List Row) Global) (there : i < length xs) (s : ℕ) (is : b.value ≡ without s (leaf_at xs i)) (missing : row_at s (leaf_at xs i) ≡ None) where
  as_it_was : b.value ≡ leaf_at xs i
  as_it_was = is ∙ without_missing s (leaf_at xs i) missing

  all_same : leaf_at (set xs i b) ≡ leaf_at xs
  all_same = λ j k. each k j
    where
      each : (k : ℕ) → leaf_at (set xs i b) k ≡ leaf_at xs k
      each k = elim (cases_eq k i) [
        | inl e ↦ subst (λ (j : ℕ). leaf_at (set xs i b) j ≡ leaf_at xs j) (sym e) (here_put xs h i b there ∙ as_it_was)
        | inr ne ↦ others_put xs h i b there k ne
      ]

  pub rows_same : rows_of (set xs i b) ≡ rows_of xs
  rows_same = rows_put xs h i b there ∙ ap (λ (r : ℕ → List Row). joined_below r (length xs)) all_same ∙ sym (rows_joined xs)

  pub leaves_same : AreLeaves (set xs i b)
  leaves_same =
      let long = ap (λ (rows : List Row). length rows) as_it_was in
      leaves_put xs h i b there (omega (arith, long, h.some i there)) (λ l. omega (arith, long, h.apart i l))
      (λ l. omega (arith, long, h.apart (i - 1) (omega arith), ap (λ k. length (leaf_at xs k)) (let z : suc (i - 1) ≡ i = omega arith in z)))
      (subst IsNewestFirst (sym rows_same) h.ordered) (subst HasLowRequests (sym rows_same) h.low) (omega (arith, ap (λ (rows : List Row). length rows) rows_same, h.few))

  pub indexed_same : (m : Storeys) → IsIndexed m (leaf_at xs) (length xs) → IsIndexed m (leaf_at (set xs i b)) (length (set xs i b))
  indexed_same m d = subst (λ (n : ℕ). IsIndexed m (leaf_at (set xs i b)) n) (sym (length-set xs i b)) (subst (λ (r : ℕ → List Row). IsIndexed m r (length xs)) (sym all_same) d)
