-- Vectors of 16 lanes, against the words on columns.
use Rattle.std.proofs.Common.{◌≡◌, ◌≢◌, ◌⊎◌, ℕ, ◌+◌, ◌-◌, ◌^◌, ◌%◌, ◌<◌, ◌≤◌, Bool, true, false, cond, not, ltb, eqb, List, [], ◌∷◌, ◌++◌, map, length, get_or, replicate, filter, sum_by, refl, sym, ap, ◌∙◌, inl, inr, arith, w32, Fits, eq-eqb, eqb-true}
use Rattle.std.specs.List.{zip, prefix_len, remove, range_with_len}
use Rattle.std.specs.Int.Count.{count_trailing_zeros, trailing_of_zero}
use Rattle.std.proofs.lemmas.Bool.{ne_eqb, not-true, not-false, cases_lt, cases_eq, lt-ltb, le-ltb, true≢false}
use Rattle.std.proofs.lemmas.List.{length-map, get_or-map, ext_get_or, get_or_append_left, get_or-append_right, length-append}
use Rattle.std.proofs.lemmas.List.Sums.{sum_by-cons, prefix_len_passes, prefix_len_stops}
use Rattle.std.proofs.lemmas.List.Edits.{length-remove, get_or-remove_below, get_or-remove_above}
use Rattle.std.proofs.lemmas.List.FromFn.{get_or-range_with_len}
use Rattle.std.proofs.lemmas.Simd.{tops_compared, zip2_splat, zip2_splat_left, sum_fits, fold-sum, mask_l-mod, first_set_mask_l, bitmask_splat, leading_from_mask_l, trailing_mask_l, length-sel_l, get_or-sel_l, pick_l-range_with_len, length-chunk, get_or-chunk, get_or-replicate, length-replicate}
use lib.Lanes.{zip2, sel_l, top, sum_l, fold_l, Steps, mask_l, pick_l, chunk}
use Rattle.wide_rows.specs.Columns.{sum_above, place_above, total}

-- ---- sums

-- what the lanes that pass p pick, 0 for the others
abbrev picked_by : (ℕ → Bool) → List ℕ → List ℕ → ℕ
picked_by p keys sums = sum_l (sel_l (map p keys) sums (replicate (length keys) 0))

-- what stands beside the keys that pass p
abbrev beside : (ℕ → Bool) → List ℕ → List ℕ → List (ℕ × ℕ)
beside p keys sums = filter (λ (lane : ℕ × ℕ). p lane.0) (zip keys sums)

picked_one : (t : Bool) (k x n : ℕ) (rest : List (ℕ × ℕ)) → n ≡ sum_by (λ (lane : ℕ × ℕ). lane.1) rest
    → cond t x 0 + n ≡ sum_by (λ (lane : ℕ × ℕ). lane.1) (cond t ((k, x) ∷ rest) rest)
picked_one true k x n rest e = omega (arith, e, sum_by-cons (λ (lane : ℕ × ℕ). lane.1) (k, x) rest)
picked_one false k x n rest e = omega (arith, e)

picked : (p : ℕ → Bool) (keys sums : List ℕ) → length keys ≡ length sums → picked_by p keys sums ≡ sum_by (λ (lane : ℕ × ℕ). lane.1) (beside p keys sums)
picked p [] sums e = refl
picked p (k ∷ keys) [] e = absurd (omega arith)
picked p (k ∷ keys) (x ∷ sums) e = picked_one (p k) k x (picked_by p keys sums) (beside p keys sums) (picked p keys sums (omega arith))

at_most_one : (t : Bool) (x : ℕ) → cond t x 0 ≤ x
at_most_one true x = omega arith
at_most_one false x = omega arith

-- no more than all
picked_le : (p : ℕ → Bool) (keys sums : List ℕ) → length keys ≡ length sums → picked_by p keys sums ≤ total sums
picked_le p [] sums e = omega arith
picked_le p (k ∷ keys) [] e = absurd (omega arith)
picked_le p (k ∷ keys) (x ∷ sums) e = omega (arith, picked_le p keys sums (omega arith), sum_by-cons (λ (y : ℕ). y) x sums, at_most_one (p k) x)

-- all lanes of the mask of those that are above the stamp
abbrev pub above_mask : ℕ → List ℕ → List Bool
above_mask stamp keys = map (top 31) (zip2 (λ a b. cond (ltb a b) (2 ^ 32 - 1) 0) (replicate 16 stamp) keys)

mask_is : (stamp : ℕ) (keys : List ℕ) → length keys ≡ 16 → above_mask stamp keys ≡ map (λ key. ltb stamp key) keys
mask_is stamp keys long = tops_compared w32 ltb (replicate 16 stamp) keys ∙ zip2_splat_left ltb stamp 16 keys long

abbrev pub picks : ℕ → List ℕ → List ℕ → List ℕ
picks stamp keys sums = sel_l (above_mask stamp keys) sums (replicate 16 0)

picks_are : (stamp : ℕ) (keys sums : List ℕ) → length keys ≡ 16 → picks stamp keys sums ≡ sel_l (map (λ key. ltb stamp key) keys) sums (replicate (length keys) 0)
picks_are stamp keys sums long = ap (λ m. sel_l m sums (replicate 16 0)) (mask_is stamp keys long) ∙ ap (λ n. sel_l (map (λ key. ltb stamp key) keys) sums (replicate n 0)) (sym long)

pub picks_fit : (stamp : ℕ) (keys sums : List ℕ) → length keys ≡ 16 → length sums ≡ 16 → total sums < 2 ^ 32
    → Steps (λ s x. Fits w32 (s + x)) (λ s x. s + x) 0 (picks stamp keys sums)
picks_fit stamp keys sums long wide room =
    sum_fits w32 0 (picks stamp keys sums) (omega (arith, ap sum_l (picks_are stamp keys sums long), picked_le (λ key. ltb stamp key) keys sums (omega arith)))

pub picks_sum : (stamp : ℕ) (keys sums : List ℕ) → length keys ≡ 16 → length sums ≡ 16
    → fold_l (λ s x. s + x) 0 (picks stamp keys sums) ≡ sum_above stamp keys sums
picks_sum stamp keys sums long wide =
    omega (arith, fold-sum 0 (picks stamp keys sums), ap sum_l (picks_are stamp keys sums long), picked (λ key. ltb stamp key) keys sums (omega arith))

-- all lanes added
pub sum_l-total : (sums : List ℕ) → sum_l sums ≡ total sums
sum_l-total [] = refl
sum_l-total (x ∷ sums) = omega (arith, sum_l-total sums, sum_by-cons (λ (y : ℕ). y) x sums)

-- ---- places

abbrev pub above_bits : ℕ → List ℕ → ℕ
above_bits stamp keys = mask_l (above_mask stamp keys) % 2 ^ 64

bits_are : (stamp : ℕ) (keys : List ℕ) → length keys ≡ 16 → above_bits stamp keys ≡ mask_l (map (λ key. ltb stamp key) keys)
bits_are stamp keys long = mask_l-mod (above_mask stamp keys) 64 (omega (arith, ap length (mask_is stamp keys long), length-map keys (λ key. ltb stamp key))) ∙ ap mask_l (mask_is stamp keys long)

place_is : (stamp : ℕ) (keys : List ℕ) → length keys ≡ 16
    → cond (eqb (above_bits stamp keys) 0) 16 (count_trailing_zeros 64 (above_bits stamp keys)) ≡ place_above stamp keys
place_is stamp keys long = rw (bits_are stamp keys long) (first_set_mask_l (λ key. ltb stamp key) keys 16 long (omega arith))

pub place_none : (stamp : ℕ) (keys : List ℕ) → length keys ≡ 16 → above_bits stamp keys ≡ 0 → 16 ≡ place_above stamp keys
place_none stamp keys long e = ap (λ t. cond t 16 (count_trailing_zeros 64 (above_bits stamp keys))) (sym (eq-eqb _ _ e)) ∙ place_is stamp keys long

pub place_some : (stamp : ℕ) (keys : List ℕ) → length keys ≡ 16 → ¬ (above_bits stamp keys ≡ 0) → count_trailing_zeros 64 (above_bits stamp keys) ≡ place_above stamp keys
place_some stamp keys long e = ap (λ t. cond t 16 (count_trailing_zeros 64 (above_bits stamp keys))) (sym (ne_eqb _ _ e)) ∙ place_is stamp keys long

-- ---- the place of a key

abbrev pub same_bits : ℕ → List ℕ → ℕ
same_bits stamp keys = mask_l (map (top 31) (zip2 (λ a b. cond (eqb a b) (2 ^ 32 - 1) 0) keys (replicate 16 stamp))) % 2 ^ 64

abbrev first_place : ℕ → List ℕ → ℕ
first_place stamp keys = prefix_len (λ key. not (eqb key stamp)) keys

same_bits_are : (stamp : ℕ) (keys : List ℕ) → length keys ≡ 16 → same_bits stamp keys ≡ mask_l (map (λ key. eqb key stamp) keys)
same_bits_are stamp keys long = bitmask_splat w32 eqb keys 16 stamp long (omega arith)

-- 64 where no key is the stamp
place_where : (stamp : ℕ) (keys : List ℕ) → length keys ≡ 16
    → ((count_trailing_zeros 64 (same_bits stamp keys) ≡ 64) × (first_place stamp keys ≡ 16)) ⊎ (count_trailing_zeros 64 (same_bits stamp keys) ≡ first_place stamp keys)
place_where stamp keys long = elim (cases_eq (mask_l (map (λ key. eqb key stamp) keys)) 0) [
  | inl e ↦ inl (ap (count_trailing_zeros 64) (same_bits_are stamp keys long ∙ e) ∙ trailing_of_zero 64, leading_from_mask_l (λ key. eqb key stamp) keys e ∙ long)
  | inr ne ↦ inr (ap (count_trailing_zeros 64) (same_bits_are stamp keys long) ∙ trailing_mask_l (λ key. eqb key stamp) 64 keys (omega (arith, long)) (omega (arith, ne)))
]

passed : (stamp : ℕ) (keys : List ℕ) (place : ℕ) → place < first_place stamp keys → get_or keys place 0 ≢ stamp
passed stamp keys place lt e =
    true≢false (sym (eq-eqb (get_or keys place 0) stamp e) ∙ not-true (eqb (get_or keys place 0) stamp) (prefix_len_passes (λ key. not (eqb key stamp)) keys place 0 lt))

stopped : (stamp : ℕ) (keys : List ℕ) → first_place stamp keys < length keys → get_or keys (first_place stamp keys) 0 ≡ stamp
stopped stamp keys lt =
    eqb-true _ _ (not-false (eqb (get_or keys (first_place stamp keys) 0) stamp) (prefix_len_stops (λ key. not (eqb key stamp)) keys 0 lt))

pub is_first : (stamp : ℕ) (keys : List ℕ) → length keys ≡ 16 → (place : ℕ) → place < 16 → place < count_trailing_zeros 64 (same_bits stamp keys) → get_or keys place 0 ≢ stamp
is_first stamp keys long place within lt = elim (place_where stamp keys long) [
  | inl none ↦ passed stamp keys place (omega (arith, none.1))
  | inr some ↦ passed stamp keys place (omega (arith, some))
]

pub is_there : (stamp : ℕ) (keys : List ℕ) → length keys ≡ 16 → count_trailing_zeros 64 (same_bits stamp keys) < 16 → get_or keys (count_trailing_zeros 64 (same_bits stamp keys)) 0 ≡ stamp
is_there stamp keys long lt = elim (place_where stamp keys long) [
  | inl none ↦ absurd (omega (arith, none.0))
  | inr some ↦ ap (λ place. get_or keys place 0) some ∙ stopped stamp keys (omega (arith, some, long))
]

-- ---- a lane taken out

abbrev places : List ℕ
places = range_with_len 0 16

abbrev pub kept_mask : ℕ → List Bool
kept_mask place = map (top 31) (zip2 (λ a b. cond (ltb a b) (2 ^ 32 - 1) 0) (range_with_len 0 16) (replicate 16 place))

abbrev pub moved : List ℕ → List ℕ
moved column = pick_l 0 (column ++ replicate 16 0) (range_with_len 1 16)

kept_mask_is : (place : ℕ) → kept_mask place ≡ map (λ i. ltb i place) places
kept_mask_is place = tops_compared w32 ltb places (replicate 16 place) ∙ zip2_splat ltb places 16 place refl

module _ (column : List ℕ) (place : ℕ) (long : length column ≡ 16) (within : place < 16) where
  both_long : length (column ++ replicate 16 0) ≡ 32
  both_long = omega (arith, length-append column (replicate 16 0), long, length-replicate {A = ℕ} 16 0)

  moved_is : moved column ≡ chunk 1 16 (column ++ replicate 16 0)
  moved_is = pick_l-range_with_len 0 (column ++ replicate 16 0) 1 16 (omega (arith, both_long))

  length_moved : length (moved column) ≡ 16
  length_moved = ap length moved_is ∙ length-chunk 1 16 (column ++ replicate 16 0) (omega (arith, both_long))

  moved_at : (i : ℕ) → i < 16 → get_or (moved column) i 0 ≡ get_or (column ++ replicate 16 0) (1 + i) 0
  moved_at i lt = ap (λ l. get_or l i 0) moved_is ∙ get_or-chunk 1 16 (column ++ replicate 16 0) i 0 lt

  length_mask : length (kept_mask place) ≡ 16
  length_mask = ap length (kept_mask_is place) ∙ length-map places (λ i. ltb i place)

  mask_at : (i : ℕ) → i < 16 → get_or (kept_mask place) i false ≡ ltb i place
  mask_at i lt = ap (λ l. get_or l i false) (kept_mask_is place) ∙ get_or-map (λ j. ltb j place) places i 0 false lt ∙ ap (λ j. ltb j place) (get_or-range_with_len 0 16 i 0 lt ∙ omega arith)

  length_removed : length (remove column place ++ 0 ∷ []) ≡ 16
  length_removed = omega (arith, length-append (remove column place) (0 ∷ []), length-remove column place (omega (arith, long)), long)

  short : length (remove column place) ≡ 15
  short = omega (arith, length-remove column place (omega (arith, long)), long)

  selected_at : (i : ℕ) → i < 16 → get_or (sel_l (kept_mask place) column (moved column)) i 0 ≡ cond (ltb i place) (get_or column i 0) (get_or (column ++ replicate 16 0) (1 + i) 0)
  selected_at i lt =
      get_or-sel_l (kept_mask place) column (moved column) i 0 (omega (arith, length_mask)) (omega (arith, long)) (omega (arith, length_moved))
      ∙ rw (mask_at i lt, moved_at i lt)

  removed_at : (i : ℕ) → i < 16 → cond (ltb i place) (get_or column i 0) (get_or (column ++ replicate 16 0) (1 + i) 0) ≡ get_or (remove column place ++ 0 ∷ []) i 0
  removed_at i lt = elim (cases_lt i place) [
    | inl below ↦ rw (lt-ltb i place below) (sym (get_or_append_left (remove column place) (0 ∷ []) 0 i (omega (arith, short)) ∙ get_or-remove_below column place 0 i below (omega (arith, long))))
    | inr above ↦ rw (le-ltb i place above) (elim (cases_lt i 15) [
      | inl inner ↦ get_or_append_left column (replicate 16 0) 0 (1 + i) (omega (arith, long)) ∙ ap (λ j. get_or column j 0) (omega arith) ∙ sym (get_or_append_left (remove column place) (0 ∷ []) 0 i (omega (arith, short)) ∙ get_or-remove_above column place 0 i above (omega (arith, long)))
      | inr last ↦ get_or-append_right column (replicate 16 0) 16 (1 + i) 0 long (omega arith) ∙ get_or-replicate {A = ℕ} 16 (1 + i - 16) 0 0 (omega arith)
          ∙ sym (get_or-append_right (remove column place) (0 ∷ []) 15 i 0 short last ∙ ap (λ j. get_or (0 ∷ []) j 0) (let z : i - 15 ≡ 0 = omega arith in z))
    ])
  ]

  pub lane_out : sel_l (kept_mask place) column (moved column) ≡ remove column place ++ 0 ∷ []
  lane_out =
      let e = length-sel_l (kept_mask place) column (moved column) (length_mask ∙ sym long) (length_mask ∙ sym length_moved) in
      ext_get_or 0 _ _ (e ∙ length_mask ∙ sym length_removed) (λ i lt. (let l : i < 16 = omega (arith, e, length_mask) in selected_at i l ∙ removed_at i l))
