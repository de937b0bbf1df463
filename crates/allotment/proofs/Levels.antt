use Rattle.std.proofs.Common.{◌≡◌, ℕ, zero, suc, ◌+◌, ◌-◌, ◌<◌, ◌≤◌, Bool, cond, ltb, min, List, [], ◌∷◌, ◌++◌, Option, None, Some, get_or, map, refl, sym, ap, ◌∙◌, arith, inl, inr}
use Rattle.std.specs.List.{find, flat_map, sum, position_from, range_with_len}
use Rattle.std.proofs.lemmas.Bool.{cases_lt, cases_Bool}
use Rattle.std.proofs.lemmas.List.Sums.{sum_by-cons}
use Rattle.market_types.specs.State.{Arena, State}
use Rattle.market_types.specs.Claims.{is_mandated}
use Rattle.market_types.specs.Allotment.{at_level, levels_of, demand, assigned_to, assigned, bound_of, first_demand, top_level}
use Rattle.allotment.specs.Levels.{AreDemandsOf, ArePicksOf, number_of, first_some, pick_of}

-- ---- lists that are the same but for what stands after the last level

-- the same numbers, where 0 stands after the end
abbrev pub Same : List ℕ → List ℕ → Type 0
Same xs ys = (i : ℕ) → get_or xs i 0 ≡ get_or ys i 0

tail-left : (x : ℕ) (xs : List ℕ) → Same (x ∷ xs) [] → Same xs []
tail-left x xs h i = h (suc i)

tail-right : (y : ℕ) (ys : List ℕ) → Same [] (y ∷ ys) → Same [] ys
tail-right y ys h i = h (suc i)

tail-both : (x y : ℕ) (xs ys : List ℕ) → Same (x ∷ xs) (y ∷ ys) → Same xs ys
tail-both x y xs ys h i = h (suc i)

-- what is assigned
pub assigned_to-same : (xs ys : List ℕ) (m i : ℕ) → Same xs ys → get_or (assigned_to xs m) i 0 ≡ get_or (assigned_to ys m) i 0
assigned_to-same [] [] m i h = refl
assigned_to-same [] (y ∷ ys) m zero h = let z : 0 ≡ y = h 0 in omega arith
assigned_to-same [] (y ∷ ys) m (suc i) h = assigned_to-same [] ys (m - min y m) i (tail-right y ys h)
assigned_to-same (x ∷ xs) [] m zero h = let z : x ≡ 0 = h 0 in omega arith
assigned_to-same (x ∷ xs) [] m (suc i) h = assigned_to-same xs [] (m - min x m) i (tail-left x xs h)
assigned_to-same (x ∷ xs) (y ∷ ys) m zero h = let e : x ≡ y = h 0 in rw e refl
assigned_to-same (x ∷ xs) (y ∷ ys) m (suc i) h =
    let e : x ≡ y = h 0 in
    rw e (assigned_to-same xs ys (m - min y m) i (tail-both x y xs ys h))

-- the first demand
pub first-same : (xs ys : List ℕ) (n : ℕ) → Same xs ys → position_from (λ d. ltb 0 d) n xs ≡ position_from (λ d. ltb 0 d) n ys
first-same [] [] n h = refl
first-same [] (y ∷ ys) n h = let z : 0 ≡ y = h 0 in rw (← z) (first-same [] ys (n + 1) (tail-right y ys h))
first-same (x ∷ xs) [] n h = let z : x ≡ 0 = h 0 in rw z (first-same xs [] (n + 1) (tail-left x xs h))
first-same (x ∷ xs) (y ∷ ys) n h =
    let e : x ≡ y = h 0 in
    rw e (ap (λ r. cond (ltb 0 y) (Some n) r) (first-same xs ys (n + 1) (tail-both x y xs ys h)))

-- the sum
pub sum-same : (xs ys : List ℕ) → Same xs ys → sum xs ≡ sum ys
sum-same [] [] h = refl
sum-same [] (y ∷ ys) h =
    let z : 0 ≡ y = h 0 in
    omega (arith, sum_by-cons (λ (n : ℕ). n) y ys, sum-same [] ys (tail-right y ys h))
sum-same (x ∷ xs) [] h =
    let z : x ≡ 0 = h 0 in
    omega (arith, sum_by-cons (λ (n : ℕ). n) x xs, sum-same xs [] (tail-left x xs h))
sum-same (x ∷ xs) (y ∷ ys) h =
    let e : x ≡ y = h 0 in
    omega (arith, sum_by-cons (λ (n : ℕ). n) x xs, sum_by-cons (λ (n : ℕ). n) y ys, sum-same xs ys (tail-both x y xs ys h))

-- no level is given more than it asks for
pub assigned_to-within : (ds : List ℕ) (m i : ℕ) → get_or (assigned_to ds m) i 0 ≤ get_or ds i 0
assigned_to-within [] m i = omega arith
assigned_to-within (d ∷ ds) m zero = omega arith
assigned_to-within (d ∷ ds) m (suc i) = assigned_to-within ds (m - min d m) i

-- ---- the demands of a market

-- what is computed for each level stands at its place
map-range-at : {X : Type 0} (f : ℕ → X) (from n i : ℕ) (d : X) → i < n → get_or (map f (range_with_len from n)) i d ≡ f (from + i)
map-range-at f from zero i d h = absurd (omega arith)
map-range-at f from (suc n) zero d h = ap f (omega arith)
map-range-at f from (suc n) (suc i) d h = map-range-at f (from + 1) n i d (omega arith) ∙ ap f (omega arith)

-- and nothing above the levels
pub map-range-above : {X : Type 0} (f : ℕ → X) (from n i : ℕ) (d : X) → n ≤ i → get_or (map f (range_with_len from n)) i d ≡ d
map-range-above f from zero i d h = refl
map-range-above f from (suc n) zero d h = absurd (omega arith)
map-range-above f from (suc n) (suc i) d h = map-range-above f (from + 1) n i d (omega arith)

pub demands-same : (s : State) (demands : List ℕ) → AreDemandsOf s demands → Same demands (map (demand s) (levels_of s))
demands-same s demands h i =
    elim (cases_lt i s.levels) [
      | inl p ↦
          let here : get_or demands (i + 1 - 1) 0 ≡ demand s (i + 1) = h.levels (i + 1) (omega arith) (omega arith) in
          let place : i + 1 - 1 ≡ i = omega arith in
          let asked : get_or demands i 0 ≡ demand s (i + 1) = rw place at here in
          asked ∙ ap (demand s) (omega arith) ∙ sym (map-range-at (demand s) 1 s.levels i 0 p)
      | inr p ↦ h.above i p ∙ sym (map-range-above (demand s) 1 s.levels i 0 p)
    ]

pub assigned-padded : (s : State) (demands : List ℕ) (level : ℕ) → AreDemandsOf s demands → get_or (assigned_to demands (bound_of s)) (level - 1) 0 ≡ assigned s level
assigned-padded s demands level h = assigned_to-same demands (map (demand s) (levels_of s)) (bound_of s) (level - 1) (demands-same s demands h)

pub top_level-padded : (s : State) (demands : List ℕ) → AreDemandsOf s demands → first_demand demands ≡ top_level s
top_level-padded s demands h = first-same demands (map (demand s) (levels_of s)) 1 (demands-same s demands h)

-- ---- the picks of a market

abbrev pub SamePicks : List (Option ℕ) → List (Option ℕ) → Type 0
SamePicks xs ys = (i : ℕ) → get_or xs i None ≡ get_or ys i None

-- the first of them
pub first_some-same : (xs ys : List (Option ℕ)) → SamePicks xs ys → first_some xs ≡ first_some ys
first_some-same [] [] h = refl
first_some-same [] (None ∷ ys) h = first_some-same [] ys (λ i. h (suc i))
first_some-same [] (Some y ∷ ys) h = h 0
first_some-same (None ∷ xs) [] h = first_some-same xs [] (λ i. h (suc i))
first_some-same (Some x ∷ xs) [] h = h 0
first_some-same (None ∷ xs) (None ∷ ys) h = first_some-same xs ys (λ i. h (suc i))
first_some-same (None ∷ xs) (Some y ∷ ys) h = let e : None ≡ Some y = h 0 in cc
first_some-same (Some x ∷ xs) (None ∷ ys) h = let e : Some x ≡ None = h 0 in cc
first_some-same (Some x ∷ xs) (Some y ∷ ys) h = h 0

-- a search in two lists
find-past : (p : Arena → Bool) (xs ys : List Arena) → find p xs ≡ None → find p (xs ++ ys) ≡ find p ys
find-past p [] ys h = refl
find-past p (x ∷ xs) ys h =
    elim (cases_Bool (p x)) [
      | inl e ↦ let f : Some x ≡ None = rw e at h in cc
      | inr e ↦ let f : find p xs ≡ None = rw e at h in rw e (find-past p xs ys f)
    ]

find-here : (p : Arena → Bool) (xs ys : List Arena) (a : Arena) → find p xs ≡ Some a → find p (xs ++ ys) ≡ Some a
find-here p [] ys a h = cc
find-here p (x ∷ xs) ys a h =
    elim (cases_Bool (p x)) [
      | inl e ↦ let f : Some x ≡ Some a = rw e at h in rw e f
      | inr e ↦ let f : find p xs ≡ Some a = rw e at h in rw e (find-here p xs ys a f)
    ]

-- the picks of the first level and the others
pick-step : (p : Arena → Bool) (xs ys : List Arena) (picks : List (Option ℕ)) (found : Option Arena) → find p xs ≡ found → first_some picks ≡ number_of (find p ys)
    → first_some (number_of (find p xs) ∷ picks) ≡ number_of (find p (xs ++ ys))
pick-step p xs ys picks None e h = rw (e, find-past p xs ys e) h
pick-step p xs ys picks (Some a) e h = rw (e, find-here p xs ys a e) refl

-- the first arena of all levels is the first of the levels' own
first-pick : (p : Arena → Bool) (arenas_at : ℕ → List Arena) (levels : List ℕ)
    → first_some (map (λ level. number_of (find p (arenas_at level))) levels) ≡ number_of (find p (flat_map arenas_at levels))
first-pick p arenas_at [] = refl
first-pick p arenas_at (l ∷ ls) =
    pick-step p (arenas_at l) (flat_map arenas_at ls) (map (λ level. number_of (find p (arenas_at level))) ls) (find p (arenas_at l)) refl (first-pick p arenas_at ls)

abbrev mandated : Arena → Bool
mandated a = is_mandated a.claim

pub picks-same : (s : State) (picks : List (Option ℕ)) → ArePicksOf s picks
    → SamePicks picks (map (λ level. number_of (find mandated (at_level level s.arenas))) (levels_of s))
picks-same s picks h i =
    let f : ℕ → Option ℕ = λ level. number_of (find mandated (at_level level s.arenas)) in
    elim (cases_lt i s.levels) [
      | inl p ↦
          let here : get_or picks (i + 1 - 1) None ≡ f (i + 1) = h.levels (i + 1) (omega arith) (omega arith) in
          let place : i + 1 - 1 ≡ i = omega arith in
          let picked : get_or picks i None ≡ f (i + 1) = rw place at here in
          picked ∙ ap f (omega arith) ∙ sym (map-range-at f 1 s.levels i None p)
      | inr p ↦ h.above i p ∙ sym (map-range-above f 1 s.levels i None p)
    ]

pub pick-padded : (s : State) (picks : List (Option ℕ)) → ArePicksOf s picks → first_some picks ≡ pick_of s
pick-padded s picks h =
    first_some-same picks (map (λ level. number_of (find mandated (at_level level s.arenas))) (levels_of s)) (picks-same s picks h)
    ∙ first-pick mandated (λ level. at_level level s.arenas) (levels_of s)
