-- The arenas in order, by their places.
use Rattle.std.proofs.Common.{◌≡◌, ℕ, zero, suc, ◌+◌, ◌<◌, ◌≤◌, List, [], ◌∷◌, length, refl, sym, ap, ◌∙◌, arith, inl, inr}
use Rattle.std.specs.List.{All, flat_map, range_with_len, sum_by}
use Rattle.std.proofs.lemmas.Bool.{cases_eq, eq-eqb, ne_eqb}
use Rattle.std.proofs.lemmas.List.Elements.{All-head, All-tail}
use Rattle.std.proofs.lemmas.List.Sums.{sum_by-cons, sum_by-append}
use Rattle.market_types.specs.State.{Arena, State}
use Rattle.market_types.specs.Allotment.{at_level, in_order}

-- ---- level by level

-- the arenas of so many levels from one on, level by level
abbrev pub levels_from : ℕ → ℕ → List Arena → List Arena
levels_from from n arenas = flat_map (λ level. at_level level arenas) (range_with_len from n)

-- the arenas of the first levels, in order
abbrev pub in_levels : ℕ → List Arena → List Arena
in_levels levels arenas = levels_from 1 levels arenas

-- ---- each arena stands once in order

levels-cons : (f : Arena → ℕ) (arenas : List Arena) (from n : ℕ) → sum_by f (levels_from from (suc n) arenas) ≡ sum_by f (at_level from arenas) + sum_by f (levels_from (from + 1) n arenas)
levels-cons f arenas from n = sum_by-append f (at_level from arenas) (levels_from (from + 1) n arenas)

sum-below : (f : Arena → ℕ) (a : Arena) (arenas : List Arena) (from n : ℕ) → a.level < from → sum_by f (levels_from from n (a ∷ arenas)) ≡ sum_by f (levels_from from n arenas)
sum-below f a arenas from zero h = refl
sum-below f a arenas from (suc n) h =
    let here : sum_by f (at_level from (a ∷ arenas)) ≡ sum_by f (at_level from arenas) = rw (ne_eqb a.level from (λ e. omega (arith, h, e))) refl in
    omega (arith, levels-cons f (a ∷ arenas) from n, levels-cons f arenas from n, here, sum-below f a arenas (from + 1) n (omega arith))

sum-once : (f : Arena → ℕ) (a : Arena) (arenas : List Arena) (from n : ℕ) → from ≤ a.level → a.level < from + n → sum_by f (levels_from from n (a ∷ arenas)) ≡ f a + sum_by f (levels_from from n arenas)
sum-once f a arenas from zero low high = absurd (omega arith)
sum-once f a arenas from (suc n) low high =
    elim (cases_eq a.level from) [
      | inl e ↦
          let here : sum_by f (at_level from (a ∷ arenas)) ≡ f a + sum_by f (at_level from arenas) = rw (eq-eqb a.level from e) (sum_by-cons f a (at_level from arenas)) in
          omega (arith, levels-cons f (a ∷ arenas) from n, levels-cons f arenas from n, here, sum-below f a arenas (from + 1) n (omega arith))
      | inr m ↦
          let here : sum_by f (at_level from (a ∷ arenas)) ≡ sum_by f (at_level from arenas) = rw (ne_eqb a.level from m) refl in
          omega (arith, levels-cons f (a ∷ arenas) from n, levels-cons f arenas from n, here, sum-once f a arenas (from + 1) n (omega arith) (omega arith))
    ]

levels-none : (f : Arena → ℕ) (from n : ℕ) → sum_by f (levels_from from n []) ≡ 0
levels-none f from zero = refl
levels-none f from (suc n) = levels-none f (from + 1) n

pub sum-in_levels : (f : Arena → ℕ) (levels : ℕ) (arenas : List Arena) → All (λ (a : Arena). (1 ≤ a.level) × (a.level ≤ levels)) arenas → sum_by f (in_levels levels arenas) ≡ sum_by f arenas
sum-in_levels f levels [] h = levels-none f 1 levels
sum-in_levels f levels (a ∷ arenas) h =
    let P : Arena → Type 0 = λ (b : Arena). (1 ≤ b.level) × (b.level ≤ levels) in
    let here : P a = All-head P a arenas h in
    sum-once f a arenas 1 levels here.0 (omega (arith, here.1))
    ∙ ap (λ n. f a + n) (sum-in_levels f levels arenas (All-tail P a arenas h))
    ∙ sym (sum_by-cons f a arenas)

-- as many ones as there are arenas
sum-ones : (arenas : List Arena) → sum_by (λ (a : Arena). 1) arenas ≡ length arenas
sum-ones [] = refl
sum-ones (a ∷ arenas) = omega (arith, sum_by-cons (λ (b : Arena). 1) a arenas, sum-ones arenas)

-- all arenas stand in order
pub in_order-length : (s : State) → All (λ (a : Arena). (1 ≤ a.level) × (a.level ≤ s.levels)) s.arenas → length (in_order s) ≡ length s.arenas
in_order-length s leveled = sym (sum-ones (in_order s)) ∙ sum-in_levels (λ (a : Arena). 1) s.levels s.arenas leveled ∙ sum-ones s.arenas
