-- What a level is assigned, by what the levels before it ask for, and which is the first that asks.
use Rattle.std.specs.Prelude.{slice_index}
use Rattle.std.specs.List.{position_from, range_with_len, sum}
use Rattle.std.proofs.Common.{◌≡◌, ℕ, zero, suc, ◌+◌, ◌-◌, ◌<◌, ◌≤◌, true, false, ltb, min, List, map, Some, refl, sym, ap, ◌∙◌, arith, inl, inr}
use Rattle.std.proofs.lemmas.Bool.{cases_lt, le-ltb, lt-ltb, ne_eqb}
use Rattle.std.proofs.lemmas.List.{get_or_past}
use Rattle.std.proofs.lemmas.List.FromFn.{get_or-map-range_with_len, length-map-range_with_len}
use Rattle.std.proofs.lemmas.List.Sums.{sum_by-cons}
use Rattle.market_types.specs.State.{State}
use Rattle.market_types.specs.Allotment.{assigned, assigned_to, bound_of, demand, effective_limit_of, is_just, levels_of, limit_of, top_level, total_request}
use Rattle.allotment.specs.Levels.{AreDemandsOf}
use Rattle.market_core.specs.Divided.{asked_before, left_after}

-- the sum of `n` values from one place on
abbrev below : (ℕ → ℕ) → ℕ → ℕ → ℕ
below f from zero = 0
below f from (suc n) = f from + below f (from + 1) n

below-last : (f : ℕ → ℕ) (from n : ℕ) → below f from (suc n) ≡ below f from n + f (from + n)
below-last f from zero =
    let here : from + 0 ≡ from = omega arith in
    omega (arith, ap f here)
below-last f from (suc n) =
    let at : from + 1 + n ≡ from + suc n = omega arith in
    omega (arith, below-last f (from + 1) n, ap f at)

below-sum : (f : ℕ → ℕ) (from n : ℕ) → below f from n ≡ sum (map f (range_with_len from n))
below-sum f from zero = refl
below-sum f from (suc n) = ap (λ k. f from + k) (below-sum f (from + 1) n) ∙ sym (sum_by-cons (λ (x : ℕ). x) (f from) (map f (range_with_len (from + 1) n)))

below-within : (f : ℕ → ℕ) (from i n : ℕ) → i < n → below f from i + f (from + i) ≤ below f from n
below-within f from i zero less = absurd (omega (arith, less))
below-within f from zero (suc n) less =
    let here : from + 0 ≡ from = omega arith in
    omega (arith, ap f here)
below-within f from (suc i) (suc n) less =
    let at : from + 1 + i ≡ from + suc i = omega arith in
    omega (arith, below-within f (from + 1) i n (omega (arith, less)), ap f at)

-- of demands in order each is given what those before it leave
given-at : (f : ℕ → ℕ) (from n i m : ℕ) → i < n → slice_index (assigned_to (map f (range_with_len from n)) m) i ≡ min (f (from + i)) (m - below f from i)
given-at f from zero i m less = absurd (omega (arith, less))
given-at f from (suc n) zero m less =
    let here : from + 0 ≡ from = omega arith in
    omega (arith, ap f here)
given-at f from (suc n) (suc i) m less =
    let at : from + 1 + i ≡ from + suc i = omega arith in
    omega (arith, given-at f (from + 1) n i (m - min (f from) m) (omega (arith, less)), ap f at)

asked-below : (s : State) (n : ℕ) → asked_before s n ≡ below (demand s) 1 n
asked-below s zero = refl
asked-below s (suc n) =
    let at : 1 + n ≡ suc n = omega arith in
    omega (arith, asked-below s n, below-last (demand s) 1 n, ap (demand s) at)

-- one level more
pub left-after : (s : State) (place level wanted left : ℕ) → level ≡ place + 1 → wanted ≡ demand s level → left ≡ left_after s place → left - wanted ≡ left_after s (place + 1)
left-after s place level wanted left at asks was =
    let next : place + 1 ≡ suc place = omega arith in
    let level_is : level ≡ suc place = omega (arith, at) in
    let asked : asked_before s (place + 1) ≡ asked_before s place + demand s (suc place) = ap (asked_before s) next in
    omega (arith, asked, asks, ap (demand s) level_is, was)

-- what the levels that there are ask for is what is asked for at 8 places
are-asked : (s : State) → AreDemandsOf s (map (demand s) (levels_of s))
are-asked s =
    record {
      levels = λ level low high. get_or-map-range_with_len (demand s) 1 s.levels (level - 1) level 0 (omega (arith, low, high)) (omega (arith, low));
      above = λ place past. get_or_past (map (demand s) (levels_of s)) place 0 (omega (arith, past, length-map-range_with_len (demand s) 1 s.levels));
    }

-- where some worker may be active, and levels ask together for what all arenas do
pub level-assigned : (s : State) (level : ℕ) → ((demands : List ℕ) → AreDemandsOf s demands → sum demands ≡ total_request s.arenas)
    → 0 < limit_of s → 1 ≤ level → level ≤ s.levels → assigned s level ≡ min (demand s level) (left_after s (level - 1))
level-assigned s level asked some low high =
    let at : 1 + (level - 1) ≡ level = omega (arith, low) in
    let limit : effective_limit_of s ≡ limit_of s = rw (lt-ltb 0 (limit_of s) some) refl in
    let total : below (demand s) 1 s.levels ≡ total_request s.arenas = below-sum (demand s) 1 s.levels ∙ asked (map (demand s) (levels_of s)) (are-asked s) in
    let bound : bound_of s ≡ min (total_request s.arenas) (limit_of s) = ap (min (total_request s.arenas)) limit in
    let given = given-at (demand s) 1 s.levels (level - 1) (bound_of s) (omega (arith, low, high)) in
    let within = below-within (demand s) 1 (level - 1) s.levels (omega (arith, low, high)) in
    omega (arith, given, within, total, bound, asked-below s (level - 1), ap (demand s) at)

-- ---- the first level that asks

first-at : (f : ℕ → ℕ) (from n i k : ℕ) → i < n → below f from i ≡ 0 → 0 < f (from + i) → position_from (λ d. ltb 0 d) k (map f (range_with_len from n)) ≡ Some (k + i)
first-at f from zero i k less none some = absurd (omega (arith, less))
first-at f from (suc n) zero k less none some =
    let here : from + 0 ≡ from = omega arith in
    let asks : ltb 0 (f from) ≡ true = lt-ltb 0 (f from) (omega (arith, ap f here, some)) in
    let place : k + 0 ≡ k = omega arith in
    rw (asks, place) refl
first-at f from (suc n) (suc i) k less none some =
    let at : from + 1 + i ≡ from + suc i = omega arith in
    let idle : ltb 0 (f from) ≡ false = le-ltb 0 (f from) (omega (arith, none)) in
    let place : k + 1 + i ≡ k + suc i = omega arith in
    rw idle (first-at f (from + 1) n i (k + 1) (omega (arith, less)) (omega (arith, none)) (omega (arith, ap f at, some)) ∙ ap Some place)

pub top-first : (s : State) (place level : ℕ) → level ≡ place + 1 → level ≤ s.levels → asked_before s place ≡ 0 → 0 < demand s level → top_level s ≡ Some level
top-first s place level at high none some =
    let next : 1 + place ≡ level = omega (arith, at) in
    first-at (demand s) 1 s.levels place 1 (omega (arith, at, high)) (omega (arith, none, asked-below s place)) (omega (arith, ap (demand s) next, some)) ∙ ap Some next

-- where a level before it asks, none is the first that does
pub top-later : (s : State) (levels level : ℕ) → levels < level → level ≤ s.levels → 0 < asked_before s levels → is_just level (top_level s) ≡ false
top-later s zero level less high some = absurd (omega (arith, some))
top-later s (suc n) level less high some = elim (cases_lt 0 (asked_before s n)) [
  | inl before ↦ top-later s n level (omega (arith, less)) high before
  | inr none ↦
      let at : suc n ≡ n + 1 = omega arith in
      ap (is_just level) (top-first s n (suc n) at (omega (arith, less, high)) (omega (arith, none)) (omega (arith, none, some)))
      ∙ ne_eqb (suc n) level (λ e. omega (arith, e, less))
]
