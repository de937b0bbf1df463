-- What the levels of a market are given, by the limit alone.
use Rattle.std.specs.Prelude.{slice_index}
use Rattle.std.specs.List.{range_with_len}
use Rattle.std.proofs.Common.{◌≡◌, ℕ, zero, suc, ◌+◌, ◌-◌, ◌<◌, ◌≤◌, false, eqb, min, List, [], ◌∷◌, length, map, refl, sym, ap, ◌∙◌, arith, inl, inr}
use Rattle.std.proofs.lemmas.Bool.{cases_Bool}
use Rattle.std.proofs.lemmas.Bool.Decides.{nat_tests}
use Rattle.std.proofs.lemmas.List.Sums.{sum_by-cons}
use Rattle.market_types.specs.State.{Arena, State}
use Rattle.market_types.specs.Claims.{request_of}
use Rattle.market_types.specs.Allotment.{assigned, assigned_to, at_level, bound_of, demand, effective_limit_of, levels_of, total_request}

-- ---- what is left over counts for nothing

abbrev total : List ℕ → ℕ
total [] = 0
total (d ∷ ds) = d + total ds

given-min : (ds : List ℕ) (t m : ℕ) → total ds ≤ t → assigned_to ds (min t m) ≡ assigned_to ds m
given-min [] t m within = refl
given-min (d ∷ ds) t m within =
    let first : min d (min t m) ≡ min d m = omega (arith, within) in
    let left : min t m - min d (min t m) ≡ min (t - d) (m - min d m) = omega (arith, within) in
    let rest : total ds ≤ t - d = omega (arith, within) in
    (λ i. first i ∷ assigned_to ds (left i)) ∙ ap (λ gs. min d m ∷ gs) (given-min ds (t - d) (m - min d m) rest)

-- ---- the levels ask for no more than all arenas

abbrev asks : List Arena → ℕ → ℕ → ℕ
asks xs from n = total (map (λ level. total_request (at_level level xs)) (range_with_len from n))

-- an arena of an earlier level is in none of these
asks-past : (x : Arena) (xs : List Arena) (from n : ℕ) → x.level < from → asks (x ∷ xs) from n ≡ asks xs from n
asks-past x xs from zero past = refl
asks-past x xs from (suc n) past =
    let other : eqb x.level from ≡ false = grind (arith, nat_tests) in
    let first : total_request (at_level from (x ∷ xs)) ≡ total_request (at_level from xs) = rw other refl in
    let later : x.level < from + 1 = omega (arith, past) in
    λ i. first i + asks-past x xs (from + 1) n later i

-- an arena is in one of these at most
asks-more : (x : Arena) (xs : List Arena) (from n : ℕ) → asks (x ∷ xs) from n ≤ request_of x.claim + asks xs from n
asks-more x xs from zero = omega arith
asks-more x xs from (suc n) =
    elim (cases_Bool (eqb x.level from)) [
      | inl here ↦
          let first : total_request (at_level from (x ∷ xs)) ≡ request_of x.claim + total_request (at_level from xs) =
          rw here (sum_by-cons (λ (a : Arena). request_of a.claim) x (at_level from xs)) in
          let level : x.level < from + 1 = grind (arith, nat_tests) in
          let rest : asks (x ∷ xs) (from + 1) n ≡ asks xs (from + 1) n = asks-past x xs (from + 1) n level in
          omega (arith, first, rest)
      | inr other ↦
          let first : total_request (at_level from (x ∷ xs)) ≡ total_request (at_level from xs) = rw other refl in
          let rest = asks-more x xs (from + 1) n in
          omega (arith, first, rest)
    ]

asks-none : (from n : ℕ) → asks [] from n ≡ 0
asks-none from zero = refl
asks-none from (suc n) = let rest = asks-none (from + 1) n in omega (arith, rest)

asks-within : (xs : List Arena) (from n : ℕ) → asks xs from n ≤ total_request xs
asks-within [] from n = omega (arith, asks-none from n)
asks-within (x ∷ xs) from n =
    let sum_ = sum_by-cons (λ (a : Arena). request_of a.claim) x xs in
    omega (arith, sum_, asks-more x xs from n, asks-within xs from n)

-- so the limit alone says what the levels are given
given-by-limit : (s : State) → assigned_to (map (demand s) (levels_of s)) (bound_of s) ≡ assigned_to (map (demand s) (levels_of s)) (effective_limit_of s)
given-by-limit s = given-min (map (demand s) (levels_of s)) (total_request s.arenas) (effective_limit_of s) (asks-within s.arenas 1 s.levels)

-- ---- in an array with a place for each level

given-same : (ds es : List ℕ) (m i : ℕ) → ((j : ℕ) → j ≤ i → slice_index ds j ≡ slice_index es j) → i < length ds → i < length es
    → slice_index (assigned_to ds m) i ≡ slice_index (assigned_to es m) i
given-same [] es m i same inside inside' = absurd (omega (arith, inside))
given-same (d ∷ ds) [] m i same inside inside' = absurd (omega (arith, inside'))
given-same (d ∷ ds) (e ∷ es) m zero same inside inside' = ap (λ x. min x m) (same 0 (omega arith))
given-same (d ∷ ds) (e ∷ es) m (suc i) same inside inside' =
    let first : d ≡ e = same 0 (omega arith) in
    ap (λ x. slice_index (assigned_to ds (m - min x m)) i) first
    ∙ given-same ds es (m - min e m) i (λ j less. same (suc j) (omega (arith, less))) (omega (arith, inside)) (omega (arith, inside'))

at-range : (f : ℕ → ℕ) (from n i : ℕ) → i < n → slice_index (map f (range_with_len from n)) i ≡ f (from + i)
at-range f from zero i inside = absurd (omega (arith, inside))
at-range f from (suc n) zero inside = ap f (omega arith)
at-range f from (suc n) (suc i) inside = at-range f (from + 1) n i (omega (arith, inside)) ∙ ap f (omega arith)

range-length : (f : ℕ → ℕ) (from n : ℕ) → length (map f (range_with_len from n)) ≡ n
range-length f from zero = refl
range-length f from (suc n) = ap (λ k. suc k) (range-length f (from + 1) n)

pub given-is : (s : State) (demands : List ℕ) (level : ℕ) → ((j : ℕ) → j < level → slice_index demands j ≡ demand s (1 + j)) → level ≤ length demands → 1 ≤ level → level ≤ s.levels
    → slice_index (assigned_to demands (effective_limit_of s)) (level - 1) ≡ assigned s level
given-is s demands level are long low high =
    let ds : List ℕ = map (demand s) (levels_of s) in
    let count : length ds ≡ s.levels = range-length (demand s) 1 s.levels in
    given-same demands ds (effective_limit_of s) (level - 1)
    (λ j less. are j (omega (arith, less, low)) ∙ sym (at-range (demand s) 1 s.levels j (omega (arith, less, low, high))))
    (omega (arith, long, low)) (omega (arith, count, low, high))
    ∙ ap (λ gs. slice_index gs (level - 1)) (sym (given-by-limit s))
