-- What a level's arenas ask for, and what a level is assigned.
use Rattle.std.proofs.Common.{◌≡◌, ℕ, zero, suc, ◌+◌, ◌-◌, ◌≤◌, eqb, List, [], ◌∷◌, get_or, map, Some, sym, ap, ◌∙◌, arith}
use Rattle.std.specs.Prelude.{slice_get, min}
use Rattle.std.specs.List.{sum, sum_by, range_with_len}
use Rattle.std.proofs.lemmas.Bool.{eqb-true}
use Rattle.std.proofs.lemmas.List.Elements.{filter_passes}
use Rattle.std.proofs.lemmas.List.FromFn.{get_or-map-range_with_len, length-map-range_with_len}
use Rattle.std.proofs.lemmas.List.{get_or_past}
use Rattle.std.proofs.lemmas.List.Sums.{get_or-le-sum_by, sum-map, sum_by-cons}
use Rattle.std.proofs.lemmas.Option.{slice_get_within, get_or_from_slice_get}
use Rattle.market_types.specs.State.{Arena, State}
use Rattle.market_types.specs.Claims.{request_of}
use Rattle.market_types.specs.Allotment.{at_level, levels_of, total_request, demand, assigned_to, assigned, bound_of}
use Rattle.allotment.specs.Levels.{AreDemandsOf}

-- ---- an arena of a level

-- it is at that level
pub level-at : (level : ℕ) (arenas : List Arena) (i : ℕ) (a : Arena) → slice_get (at_level level arenas) i ≡ Some a → a.level ≡ level
level-at level arenas i a found =
    let here = slice_get_within (at_level level arenas) i a found in
    let passes = filter_passes (λ (b : Arena). eqb b.level level) arenas i a here in
    let same : get_or (at_level level arenas) i a ≡ a = get_or_from_slice_get (at_level level arenas) i a a found in
    eqb-true a.level level (ap (λ (b : Arena). eqb b.level level) (sym same) ∙ passes)

-- and asks for no more than the level's arenas together
pub request-at : (level : ℕ) (arenas : List Arena) (i : ℕ) (a : Arena) → slice_get (at_level level arenas) i ≡ Some a
    → request_of a.claim ≤ total_request (at_level level arenas)
request-at level arenas i a found =
    let here = slice_get_within (at_level level arenas) i a found in
    let same : get_or (at_level level arenas) i a ≡ a = get_or_from_slice_get (at_level level arenas) i a a found in
    let least = get_or-le-sum_by (λ (b : Arena). request_of b.claim) (at_level level arenas) i a here in
    omega (arith, ap (λ (b : Arena). request_of b.claim) same)

-- ---- the levels of a market

assigned_to-within : (ds : List ℕ) (m i : ℕ) → get_or (assigned_to ds m) i 0 ≤ get_or ds i 0
assigned_to-within [] m i = omega arith
assigned_to-within (d ∷ ds) m zero = omega arith
assigned_to-within (d ∷ ds) m (suc i) = assigned_to-within ds (m - min d m) i

-- no level is assigned more than it asks for
pub assigned-within : (s : State) (level : ℕ) → 1 ≤ level → level ≤ s.levels → assigned s level ≤ demand s level
assigned-within s level low high =
    let most = assigned_to-within (map (demand s) (levels_of s)) (bound_of s) (level - 1) in
    let asks : get_or (map (demand s) (levels_of s)) (level - 1) 0 ≡ demand s level = get_or-map-range_with_len (demand s) 1 s.levels (level - 1) level 0 (omega arith) (omega arith) in
    omega arith

-- the sum over one level more
pub sum-more : (f : ℕ → ℕ) (a n : ℕ) → sum_by f (range_with_len a (suc n)) ≡ sum_by f (range_with_len a n) + f (a + n)
sum-more f a zero = let same : a + 0 ≡ a = omega arith in omega (arith, sum_by-cons f a [], ap f same)
sum-more f a (suc n) =
    let same : (a + 1) + n ≡ a + suc n = omega arith in
    omega (arith, sum_by-cons f a (range_with_len (a + 1) (suc n)), sum_by-cons f a (range_with_len (a + 1) n), sum-more f (a + 1) n, ap f same)

demands-are : (s : State) → AreDemandsOf s (map (demand s) (levels_of s))
demands-are s = record {
  levels = λ level low high. get_or-map-range_with_len (demand s) 1 s.levels (level - 1) level 0 (omega arith) (omega arith);
  above = λ place past. get_or_past (map (demand s) (levels_of s)) place 0 (omega (arith, length-map-range_with_len (demand s) 1 s.levels));
}

-- the levels ask for what all arenas ask for
pub demands-total : (s : State) → ((demands : List ℕ) → AreDemandsOf s demands → sum demands ≡ total_request s.arenas) → sum_by (demand s) (levels_of s) ≡ total_request s.arenas
demands-total s asked = sym (sum-map (demand s) (levels_of s)) ∙ asked (map (demand s) (levels_of s)) (demands-are s)
