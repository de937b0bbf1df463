-- An arena that is found by its number.
use Rattle.std.proofs.Common.{◌≡◌, ℕ, ◌+◌, ◌-◌, ◌<◌, ◌≤◌, length, List, [], ◌∷◌, Some, refl, sym, subst, arith, inl, inr}
use Rattle.std.specs.List.{All}
use Rattle.std.proofs.lemmas.Bool.{cases_Bool, eq-eqb}
use Rattle.std.proofs.lemmas.List.Elements.{All-head, All-tail}
use Rattle.std.proofs.lemmas.Option.{same_Some}
use Rattle.market_types.specs.State.{Arena}
use Rattle.market_types.specs.Allotment.{at_level}
use Rattle.market_types.specs.Step.{arena_at}
use Rattle.arena_store.specs.Arenas.{has_number}

-- what holds of all holds of it
pub All-found : (P : Arena → Type 0) (n : ℕ) (arenas : List Arena) (a : Arena) → arena_at n arenas ≡ Some a → All P arenas → P a
All-found P n [] a e h = cc
All-found P n (b ∷ bs) a e h =
    elim (cases_Bool (has_number n b)) [
      | inl t ↦
          let same : Some b ≡ Some a = rw t at e in
          let q : b ≡ a = same_Some b a same in
          rw (← q) (All-head P b bs h)
      | inr f ↦
          let later : arena_at n bs ≡ Some a = rw f at e in
          All-found P n bs a later (All-tail P b bs h)
    ]

-- ---- levels that are not empty

-- what follows from an arena at any level follows from an arena
pub some-level : (arenas : List Arena) (levels v : ℕ) → All (λ (a : Arena). (1 ≤ a.level) × (a.level ≤ levels)) arenas
    → ((k : ℕ) → k < levels → 0 < length (at_level (k + 1) arenas) → 1 ≤ v) → 0 < length arenas → 1 ≤ v
some-level [] levels v h each some = absurd (omega arith)
some-level (a ∷ arenas) levels v h each some =
    let here = All-head (λ (b : Arena). (1 ≤ b.level) × (b.level ≤ levels)) a arenas h in
    let at : a.level - 1 + 1 ≡ a.level = omega (arith, here.0) in
    let own : 0 < length (at_level a.level (a ∷ arenas)) = rw (eq-eqb a.level a.level refl) (omega arith) in
    each (a.level - 1) (omega (arith, here.0, here.1)) (subst (λ level. 0 < length (at_level level (a ∷ arenas))) (sym at) own)
