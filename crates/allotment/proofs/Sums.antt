use Rattle.std.proofs.Common.{◌≡◌, ℕ, zero, suc, ◌+◌, ◌-◌, ◌*◌, ◌/◌, ◌%◌, ◌<◌, ◌≤◌, cond, eqb, min, length, get_or, List, [], ◌∷◌, ◌++◌, map, refl, sym, ap, ◌∙◌, arith, inl, inr, zero-add}
use Rattle.std.proofs.Math.Nat.{div-add-mod, eq_of_mul-eq-mul_left}
use Rattle.std.specs.List.{sum_by, sum, flat_map, range_with_len, All}
use Rattle.std.proofs.lemmas.Bool.{cases_eq, cases_lt, ne_eqb, eq-eqb}
use Rattle.std.proofs.lemmas.List.Sums.{sum_by-cons, sum_by-append}
use Rattle.market_types.specs.State.{Arena, State}
use Rattle.market_types.specs.Claims.{request_of}
use Rattle.market_types.specs.Allotment.{total_request, at_level, share_of, carry_past, carry_after, carried, assigned_to, assigned, demand, levels_of, in_order, bound_of}
use Rattle.allotment.specs.Levels.{AreDemandsOf, IsLeveled, workers_of}
use Rattle.allotment.proofs.Levels.{demands-same, sum-same, map-range-above, assigned_to-within}
use Rattle.std.proofs.lemmas.List.FromFn.{length-map-range_with_len, get_or-map-range_with_len}
use Rattle.std.proofs.lemmas.List.Elements.{All-head, All-tail}
use Rattle.allotment.proofs.Carries.{carry_after-whole, request}

abbrev workers : ℕ × ℕ → ℕ
workers e = workers_of e

-- one arena more takes its part of the workers, and leaves the rest to carry
share-step : (q k d k' d' c : ℕ) → k ≡ k' → d ≡ d' → d' * cond (eqb q 0) 0 ((q * k + c) / d) + cond (eqb q 0) c ((q * k + c) % d) ≡ q * k' + c
share-step q k d k' d' c e f =
    elim (cases_eq q 0) [
      | inl z ↦ rw (z) (omega arith)
      | inr n ↦ rw (ne_eqb q 0 n, e, f) (div-add-mod (q * k' + c) d')
    ]

own : (share past d k q rest after total c all sums : ℕ) → all ≡ share + rest → sums ≡ q + total → d * share + past ≡ q * k + c → d * rest + after ≡ k * total + past → d * all + after ≡ k * sums + c
own share past d k q rest after total c all sums e1 e2 e3 e4 = rw (e1, e2) (omega arith)

-- in a level, workers given out and carried are those due
pub sum-carried-level : (K D : ℕ → ℕ) (level c : ℕ) (arenas : List Arena)
    → D level * sum_by workers (carried K D c (at_level level arenas)) + carry_after K D c (at_level level arenas) ≡ K level * total_request (at_level level arenas) + c
sum-carried-level K D level c [] = omega arith
sum-carried-level K D level c (a ∷ arenas) =
    elim (cases_eq a.level level) [
      | inl e ↦
          rw (eq-eqb a.level level e) (own (share_of K D c a) (carry_past K D c a) (D level) (K level) (request_of a.claim)
          (sum_by workers (carried K D (carry_past K D c a) (at_level level arenas))) (carry_after K D (carry_past K D c a) (at_level level arenas)) (total_request (at_level level arenas)) c
          (sum_by workers (carried K D c (a ∷ at_level level arenas))) (total_request (a ∷ at_level level arenas))
          (sum_by-cons workers (a.number, share_of K D c a) (carried K D (carry_past K D c a) (at_level level arenas)))
          (sum_by-cons request a (at_level level arenas))
          (share-step (request_of a.claim) (K a.level) (D a.level) (K level) (D level) c (ap K e) (ap D e))
          (sum-carried-level K D level (carry_past K D c a) arenas))
      | inr n ↦ rw (ne_eqb a.level level n) (sum-carried-level K D level c arenas)
    ]

-- where nothing is asked for, nothing is given
sum-carried-none : (K D : ℕ → ℕ) (c : ℕ) (xs : List Arena) → total_request xs ≡ 0 → sum_by workers (carried K D c xs) ≡ 0
sum-carried-none K D c [] e = refl
sum-carried-none K D c (x ∷ xs) e =
    let parts = sum_by-cons request x xs in
    let none : request_of x.claim ≡ 0 = omega arith in
    let share : share_of K D c x ≡ 0 = rw none refl in
    omega (arith, sum_by-cons workers (x.number, share_of K D c x) (carried K D (carry_past K D c x) xs), sum-carried-none K D (carry_past K D c x) xs (omega arith))

-- a level's arenas together are allotted what the level is assigned
sum-carried-whole : (s : State) (K : ℕ → ℕ) (level : ℕ) → K level ≤ demand s level → sum_by workers (carried K (demand s) 0 (at_level level s.arenas)) ≡ K level
sum-carried-whole s K level h =
    let given = sum_by workers (carried K (demand s) 0 (at_level level s.arenas)) in
    let due : demand s level * given + carry_after K (demand s) 0 (at_level level s.arenas) ≡ K level * demand s level + 0 = sum-carried-level K (demand s) level 0 s.arenas in
    let exact : demand s level * given ≡ demand s level * K level = omega (arith, carry_after-whole s K level) in
    elim (cases_lt 0 (demand s level)) [
      | inl p ↦ eq_of_mul-eq-mul_left (demand s level) p given (K level) exact
      | inr z ↦ sum-carried-none K (demand s) 0 (at_level level s.arenas) (omega arith) ∙ omega arith
    ]

-- no carry is left after a level, so the levels' sums add up
pub carried-append : (K D : ℕ → ℕ) (c : ℕ) (xs ys : List Arena) → carried K D c (xs ++ ys) ≡ carried K D c xs ++ carried K D (carry_after K D c xs) ys
carried-append K D c [] ys = refl
carried-append K D c (x ∷ xs) ys = ap (λ es. (x.number, share_of K D c x) ∷ es) (carried-append K D (carry_past K D c x) xs ys)

sum-carried-levels : (s : State) (K : ℕ → ℕ) (from n : ℕ) → ((level : ℕ) → from ≤ level → K level ≤ demand s level)
    → sum_by workers (carried K (demand s) 0 (flat_map (λ level. at_level level s.arenas) (range_with_len from n))) ≡ sum_by K (range_with_len from n)
sum-carried-levels s K from zero h = refl
sum-carried-levels s K from (suc n) h =
    let levels = range_with_len (from + 1) n in
    let rest = flat_map (λ level. at_level level s.arenas) levels in
    ap (sum_by workers) (carried-append K (demand s) 0 (at_level from s.arenas) rest)
    ∙ sum_by-append workers (carried K (demand s) 0 (at_level from s.arenas)) (carried K (demand s) (carry_after K (demand s) 0 (at_level from s.arenas)) rest)
    ∙ ap (λ n. n + sum_by workers (carried K (demand s) (carry_after K (demand s) 0 (at_level from s.arenas)) rest)) (sum-carried-whole s K from (h from (omega arith)))
    ∙ ap (λ c. K from + sum_by workers (carried K (demand s) c rest)) (carry_after-whole s K from)
    ∙ ap (λ n. K from + n) (sum-carried-levels s K (from + 1) n (λ level low. h level (omega arith)))
    ∙ sym (sum_by-cons K from levels)

-- what is given to demands together
pub sum-assigned_to : (ds : List ℕ) (m : ℕ) → sum (assigned_to ds m) ≡ min (sum ds) m
sum-assigned_to [] m = omega arith
sum-assigned_to (d ∷ ds) m =
    let a = sum_by-cons (λ (x : ℕ). x) (min d m) (assigned_to ds (m - min d m)) in
    let b = sum_by-cons (λ (x : ℕ). x) d ds in
    omega (arith, a, b, sum-assigned_to ds (m - min d m))

-- ---- all levels of a market

-- a level before the others does not count
sum-none : (q level from n : ℕ) → level < from → sum_by (λ l. cond (eqb level l) q 0) (range_with_len from n) ≡ 0
sum-none q level from zero h = refl
sum-none q level from (suc n) h =
    sum_by-cons (λ l. cond (eqb level l) q 0) from (range_with_len (from + 1) n)
    ∙ rw (ne_eqb level from (λ e. absurd (omega arith))) (zero-add (sum_by (λ l. cond (eqb level l) q 0) (range_with_len (from + 1) n)) ∙ sum-none q level (from + 1) n (omega arith))

-- a level among some counts once
sum-once : (q level from n : ℕ) → from ≤ level → level < from + n → sum_by (λ l. cond (eqb level l) q 0) (range_with_len from n) ≡ q
sum-once q level from zero low high = absurd (omega arith)
sum-once q level from (suc n) low high =
    sum_by-cons (λ l. cond (eqb level l) q 0) from (range_with_len (from + 1) n)
    ∙ elim (cases_eq level from) [
      | inl e ↦ rw (eq-eqb level from e, sum-none q level (from + 1) n (omega arith)) (omega arith)
      | inr m ↦ rw (ne_eqb level from m) (zero-add (sum_by (λ l. cond (eqb level l) q 0) (range_with_len (from + 1) n)) ∙ sum-once q level (from + 1) n (omega arith) (omega arith))
    ]

-- two counts for each level
sum-pairs : (f g : ℕ → ℕ) (levels : List ℕ) → sum_by (λ l. f l + g l) levels ≡ sum_by f levels + sum_by g levels
sum-pairs f g [] = refl
sum-pairs f g (l ∷ ls) = omega (arith, sum_by-cons (λ k. f k + g k) l ls, sum_by-cons f l ls, sum_by-cons g l ls, sum-pairs f g ls)

-- the same count for each level
sum-alike : (f g : ℕ → ℕ) (levels : List ℕ) → ((level : ℕ) → f level ≡ g level) → sum_by f levels ≡ sum_by g levels
sum-alike f g [] h = refl
sum-alike f g (l ∷ ls) h = omega (arith, sum_by-cons f l ls, sum_by-cons g l ls, sum-alike f g ls h, h l)

-- one arena more in a level
demand-cons : (a : Arena) (arenas : List Arena) (level : ℕ) → total_request (at_level level (a ∷ arenas)) ≡ cond (eqb a.level level) (request_of a.claim) 0 + total_request (at_level level arenas)
demand-cons a arenas level =
    elim (cases_eq a.level level) [
      | inl e ↦ rw (eq-eqb a.level level e) (sum_by-cons request a (at_level level arenas))
      | inr m ↦ rw (ne_eqb a.level level m) (sym (zero-add (total_request (at_level level arenas))))
    ]

-- the levels' demands are all requests
sum-demands : (arenas : List Arena) (levels : ℕ) → All (λ (a : Arena). (1 ≤ a.level) × (a.level ≤ levels)) arenas
    → sum_by (λ level. total_request (at_level level arenas)) (range_with_len 1 levels) ≡ total_request arenas
sum-demands [] levels h = sum-nothing 1 levels
  where
    sum-nothing : (from n : ℕ) → sum_by (λ (level : ℕ). 0) (range_with_len from n) ≡ 0
    sum-nothing from zero = refl
    sum-nothing from (suc n) = sum-nothing (from + 1) n
sum-demands (a ∷ arenas) levels h =
    let P : Arena → Type 0 = λ (b : Arena). (1 ≤ b.level) × (b.level ≤ levels) in
    let here : (1 ≤ a.level) × (a.level ≤ levels) = All-head P a arenas h in
    sum-alike (λ level. total_request (at_level level (a ∷ arenas))) (λ level. cond (eqb a.level level) (request_of a.claim) 0 + total_request (at_level level arenas)) (range_with_len 1 levels) (demand-cons a arenas)
    ∙ sum-pairs (λ level. cond (eqb a.level level) (request_of a.claim) 0) (λ level. total_request (at_level level arenas)) (range_with_len 1 levels)
    ∙ ap (λ n. n + sum_by (λ level. total_request (at_level level arenas)) (range_with_len 1 levels)) (sum-once (request_of a.claim) a.level 1 levels here.0 (omega arith))
    ∙ ap (λ n. request_of a.claim + n) (sum-demands arenas levels (All-tail P a arenas h))
    ∙ sym (sum_by-cons request a arenas)

pub sum-demand : (s : State) → IsLeveled s → sum_by (demand s) (levels_of s) ≡ total_request s.arenas
sum-demand s h = sum-demands s.arenas s.levels h

-- what stands at the places of the levels
sum-map : (f : ℕ → ℕ) (xs : List ℕ) → sum (map f xs) ≡ sum_by f xs
sum-map f [] = refl
sum-map f (x ∷ xs) = omega (arith, sum_by-cons (λ (n : ℕ). n) (f x) (map f xs), sum_by-cons f x xs, sum-map f xs)

sum-places : (xs : List ℕ) (f : ℕ → ℕ) (from n : ℕ) → length xs ≡ n → ((i : ℕ) → f (from + i) ≡ get_or xs i 0) → sum_by f (range_with_len from n) ≡ sum xs
sum-places [] f from zero e h = refl
sum-places [] f from (suc n) e h = cc
sum-places (x ∷ xs) f from zero e h = cc
sum-places (x ∷ xs) f from (suc n) e h =
    let first : f from ≡ x = ap f (omega arith) ∙ h 0 in
    let rest = sum-places xs f (from + 1) n (omega arith) (λ i. ap f (omega arith) ∙ h (suc i)) in
    omega (arith, sum_by-cons f from (range_with_len (from + 1) n), sum_by-cons (λ (k : ℕ). k) x xs)

length-assigned_to : (ds : List ℕ) (m : ℕ) → length (assigned_to ds m) ≡ length ds
length-assigned_to [] m = refl
length-assigned_to (d ∷ ds) m = omega (arith, length-assigned_to ds (m - min d m))

-- the levels are assigned the bound
pub sum-assigned : (s : State) → IsLeveled s → sum_by (assigned s) (levels_of s) ≡ bound_of s
sum-assigned s h =
    let ds = map (demand s) (levels_of s) in
    sum-places (assigned_to ds (bound_of s)) (assigned s) 1 s.levels
    (length-assigned_to ds (bound_of s) ∙ length-map-range_with_len (demand s) 1 s.levels)
    (λ i. ap (λ place. get_or (assigned_to ds (bound_of s)) place 0) (omega arith))
    ∙ sum-assigned_to ds (bound_of s)
    ∙ ap (λ n. min n (bound_of s)) (sum-map (demand s) (levels_of s) ∙ sum-demand s h)
    ∙ omega arith

-- no level is assigned more than it asks for
assigned-within : (s : State) (level : ℕ) → 1 ≤ level → assigned s level ≤ demand s level
assigned-within s level low =
    let ds = map (demand s) (levels_of s) in
    let within : get_or (assigned_to ds (bound_of s)) (level - 1) 0 ≤ get_or ds (level - 1) 0 = assigned_to-within ds (bound_of s) (level - 1) in
    elim (cases_lt (level - 1) s.levels) [
      | inl p ↦
          let here : get_or ds (level - 1) 0 ≡ demand s level = get_or-map-range_with_len (demand s) 1 s.levels (level - 1) level 0 p (omega arith) in
          omega arith
      | inr p ↦
          let here : get_or ds (level - 1) 0 ≡ 0 = map-range-above (demand s) 1 s.levels (level - 1) 0 p in
          omega arith
    ]

-- a level's allotments are what it is assigned
pub sum-carried-in_level : (s : State) (level : ℕ) → 1 ≤ level → sum_by workers (carried (assigned s) (demand s) 0 (at_level level s.arenas)) ≡ assigned s level
sum-carried-in_level s level low = sum-carried-whole s (assigned s) level (assigned-within s level low)

-- the allotments are the bound
pub sum-carried : (s : State) → IsLeveled s → sum_by workers (carried (assigned s) (demand s) 0 (in_order s)) ≡ bound_of s
sum-carried s h = sum-carried-levels s (assigned s) 1 s.levels (assigned-within s) ∙ sum-assigned s h

-- so are the padded demands
pub sum-padded : (s : State) (demands : List ℕ) → IsLeveled s → AreDemandsOf s demands → sum demands ≡ total_request s.arenas
sum-padded s demands h padded =
    sum-same demands (map (demand s) (levels_of s)) (demands-same s demands padded) ∙ sum-map (demand s) (levels_of s) ∙ sum-demand s h
