-- The carry before an arena in the whole order: the levels before its own leave none.
use Rattle.std.proofs.Common.{◌≡◌, ◌≢◌, ℕ, zero, suc, ◌+◌, ◌*◌, ◌%◌, ◌≤◌, eqb, List, [], ◌∷◌, ◌++◌, refl, sym, ap, ◌∙◌, arith, ◌⊎◌, inl, inr}
use Rattle.std.specs.List.{flat_map, range_with_len}
use Rattle.std.proofs.lemmas.Bool.{cases_Bool, eq-eqb, ne_eqb, eqb-true}
use Rattle.std.proofs.lemmas.List.Sums.{fold-append}
use Rattle.std.proofs.lemmas.List.Elements.{filter-append}
use Rattle.market_types.specs.State.{Arena, State}
use Rattle.market_types.specs.Allotment.{total_request, at_level, in_order, carry_past, carry_after, demand}
use Rattle.allotment.proofs.Carries.{carry_after-before, carry_after-whole}

-- an element of two lists, one after the other, stands in the first or in the second
split-append : (xs ys before after : List Arena) (a : Arena) → xs ++ ys ≡ before ++ a ∷ after
    → ((more : List Arena) × (xs ≡ before ++ a ∷ more)) ⊎ ((rest : List Arena) × (before ≡ xs ++ rest) × (ys ≡ rest ++ a ∷ after))
split-append [] ys before after a e = inr (before, refl, e)
split-append (x ∷ xs) ys [] after a e = inl (xs, ap (λ b. b ∷ xs) (let head : x ≡ a = cc in head))
split-append (x ∷ xs) ys (b ∷ bs) after a e =
    let head : x ≡ b = cc in
    let tail : xs ++ ys ≡ bs ++ a ∷ after = cc in
    elim (split-append xs ys bs after a tail) [
      | inl m ↦ inl (m.0, ap (λ y. y ∷ xs) head ∙ ap (λ zs. b ∷ zs) m.1)
      | inr r ↦ inr (r.0, ap (λ zs. b ∷ zs) r.1 ∙ ap (λ y. y ∷ (xs ++ r.0)) (sym head), r.2)
    ]

-- of a level's arenas, each is at that level: those before one of them, and that one itself
level-before : (level : ℕ) (arenas before after : List Arena) (a : Arena) → at_level level arenas ≡ before ++ a ∷ after
    → (a.level ≡ level) × (at_level level before ≡ before)
level-before level [] [] after a e = cc
level-before level [] (b ∷ bs) after a e = cc
level-before level (x ∷ xs) [] after a e =
    elim (cases_Bool (eqb x.level level)) [
      | inl t ↦
          let full : x ∷ at_level level xs ≡ a ∷ after = rw t at e in
          let head : x ≡ a = cc in
          (ap (λ (b : Arena). b.level) (sym head) ∙ eqb-true x.level level t, refl)
      | inr f ↦ level-before level xs [] after a (rw f at e)
    ]
level-before level (x ∷ xs) (b ∷ bs) after a e =
    elim (cases_Bool (eqb x.level level)) [
      | inl t ↦
          let full : x ∷ at_level level xs ≡ b ∷ (bs ++ a ∷ after) = rw t at e in
          let head : x ≡ b = cc in
          let tail : at_level level xs ≡ bs ++ a ∷ after = cc in
          let rest = level-before level xs bs after a tail in
          let its : b.level ≡ level = ap (λ (c : Arena). c.level) (sym head) ∙ eqb-true x.level level t in
          (rest.0, rw (eq-eqb b.level level its) (ap (λ zs. b ∷ zs) rest.1))
      | inr f ↦ level-before level xs (b ∷ bs) after a (rw f at e)
    ]

-- a level's arenas are at no other level
level-apart : (level other : ℕ) → other ≢ level → (arenas : List Arena) → at_level other (at_level level arenas) ≡ []
level-apart level other apart [] = refl
level-apart level other apart (x ∷ xs) =
    elim (cases_Bool (eqb x.level level)) [
      | inl t ↦
          let elsewhere : x.level ≢ other = λ e. apart (sym e ∙ eqb-true x.level level t) in
          rw (t, ne_eqb x.level other elsewhere) (level-apart level other apart xs)
      | inr f ↦ rw f (level-apart level other apart xs)
    ]

-- the arenas of levels in order
abbrev of_levels : State → List ℕ → List Arena
of_levels s levels = flat_map (λ level. at_level level s.arenas) levels

carry-from : (s : State) (K : ℕ → ℕ) (low n : ℕ) (before after : List Arena) (a : Arena)
    → of_levels s (range_with_len low n) ≡ before ++ a ∷ after
    → (low ≤ a.level) × (carry_after K (demand s) 0 before ≡ K a.level * total_request (at_level a.level before) % demand s a.level)
carry-from s K low zero [] after a e = cc
carry-from s K low zero (b ∷ bs) after a e = cc
carry-from s K low (suc n) before after a e =
    elim (split-append (at_level low s.arenas) (of_levels s (range_with_len (low + 1) n)) before after a e) [
      | inl m ↦
          let here = level-before low s.arenas before m.0 a m.1 in
          let known : carry_after K (demand s) 0 (at_level low before) ≡ K low * total_request (at_level low before) % demand s low = carry_after-before K (demand s) low before in
          let at_low : carry_after K (demand s) 0 before ≡ K low * total_request (at_level low before) % demand s low =
          ap (carry_after K (demand s) 0) (sym here.1) ∙ known in
          (omega (arith, here.0), rw here.0 at_low)
      | inr r ↦
          let later = carry-from s K (low + 1) n r.0 after a r.2 in
          let apart : a.level ≢ low = λ e. omega (arith, later.0) in
          let carried : carry_after K (demand s) 0 before ≡ carry_after K (demand s) 0 r.0 =
          ap (carry_after K (demand s) 0) r.1
          ∙ fold-append (carry_past K (demand s)) 0 (at_level low s.arenas) r.0
          ∙ ap (λ carry. carry_after K (demand s) carry r.0) (carry_after-whole s K low) in
          let asked : at_level a.level before ≡ at_level a.level r.0 =
          ap (at_level a.level) r.1
          ∙ filter-append (λ (b : Arena). eqb b.level a.level) (at_level low s.arenas) r.0
          ∙ ap (λ zs. zs ++ at_level a.level r.0) (level-apart low a.level apart s.arenas) in
          (omega (arith, later.0), carried ∙ later.1 ∙ ap (λ zs. K a.level * total_request zs % demand s a.level) (sym asked))
    ]

-- the carry before an arena in the order of all levels
pub carry-in_order : (s : State) (K : ℕ → ℕ) (before after : List Arena) (a : Arena) → in_order s ≡ before ++ a ∷ after
    → carry_after K (demand s) 0 before ≡ K a.level * total_request (at_level a.level before) % demand s a.level
carry-in_order s K before after a e = (carry-from s K 1 s.levels before after a e).1
