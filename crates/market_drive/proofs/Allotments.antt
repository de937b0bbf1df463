-- What is seen of an arena's allotment.
use Rattle.std.proofs.Common.{◌≡◌, ◌∙◌, ℕ, Bool, true, false, cond, eqb, ltb, List, [], ◌∷◌, Option, Some, None, refl, ap, arith, inl, inr, sym}
use Rattle.std.specs.Prelude.{option_map}
use Rattle.std.specs.List.{All, find, flat_map}
use Rattle.std.proofs.lemmas.Bool.{cases_Bool, eqb-true}
use Rattle.std.proofs.lemmas.List.Elements.{All-append, All-cons, All-filter, All-head, All-nil, All-tail}
use Rattle.market_types.specs.declared.reply.ArenaView.{ArenaView}
use Rattle.market_types.specs.State.{Arena, State}
use Rattle.market_types.specs.Claims.{is_mandated}
use Rattle.market_types.specs.Allotment.{all_to, allotment_of, assigned, at_level, bound_of, carried, carry_past, count_at, demand, in_order, levels_of, limit_of, mandatory_pick}
use Rattle.market_types.specs.Step.{arena_at, view_of}

-- the arena has another number
abbrev IsOther : ℕ → Arena → Type 0
IsOther n a = eqb a.number n ≡ false

others-all : (n : ℕ) (arenas : List Arena) → arena_at n arenas ≡ None → All (IsOther n) arenas
others-all n [] e = All-nil (IsOther n)
others-all n (b ∷ bs) e =
    elim (cases_Bool (eqb b.number n)) [
      | inl t ↦ let h : Some b ≡ None = rw t at e in absurd (some-none b h)
      | inr f ↦ All-cons (IsOther n) b bs f (others-all n bs (rw f at e))
    ]
  where
    some-none : (b : Arena) → Some b ≡ None → ⊥
    some-none b h = cc

others-in_order : (n : ℕ) (arenas : List Arena) (levels : List ℕ) → All (IsOther n) arenas
    → All (IsOther n) (flat_map (λ level. at_level level arenas) levels)
others-in_order n arenas [] h = All-nil (IsOther n)
others-in_order n arenas (k ∷ ks) h =
    All-append (IsOther n) (at_level k arenas) (flat_map (λ level. at_level level arenas) ks)
    (All-filter (λ (b : Arena). eqb b.level k) (IsOther n) arenas h) (others-in_order n arenas ks h)

others-count_at : (n : ℕ) (K D : ℕ → ℕ) (carry : ℕ) (xs : List Arena) → All (IsOther n) xs → count_at n (carried K D carry xs) ≡ 0
others-count_at n K D carry [] h = refl
others-count_at n K D carry (x ∷ xs) h =
    rw (All-head (IsOther n) x xs h) (others-count_at n K D (carry_past K D carry x) xs (All-tail (IsOther n) x xs h))

others-all_to : (n w : ℕ) (p : Arena → Bool) (xs : List Arena) → All (IsOther n) xs → all_to (find p xs) w n ≡ 0
others-all_to n w p [] h = refl
others-all_to n w p (x ∷ xs) h =
    elim (cases_Bool (p x)) [
      | inl t ↦ rw t (rw (All-head (IsOther n) x xs h) refl)
      | inr f ↦ rw f (others-all_to n w p xs (All-tail (IsOther n) x xs h))
    ]

cond-yes : (b : Bool) (x y : ℕ) → b ≡ true → cond b x y ≡ x
cond-yes true x y e = refl
cond-yes false x y e = cc

cond-no : (b : Bool) (x y : ℕ) → b ≡ false → cond b x y ≡ y
cond-no true x y e = cc
cond-no false x y e = refl

-- no worker is allotted to an arena that there is not
pub allotment-unseen : (s : State) (n : ℕ) → option_map (view_of s) (arena_at n s.arenas) ≡ None → allotment_of s n ≡ 0
allotment-unseen s n e =
    let shared = count_at n (carried (assigned s) (demand s) 0 (in_order s)) in
    let picked = all_to (mandatory_pick s) (bound_of s) n in
    let others : All (IsOther n) (in_order s) = others-in_order n s.arenas (levels_of s) (others-all n s.arenas (unseen (arena_at n s.arenas) e)) in
    elim (cases_Bool (ltb 0 (limit_of s))) [
      | inl t ↦ cond-yes (ltb 0 (limit_of s)) shared picked t ∙ others-count_at n (assigned s) (demand s) 0 (in_order s) others
      | inr f ↦ cond-no (ltb 0 (limit_of s)) shared picked f ∙ others-all_to n (bound_of s) (λ (a : Arena). is_mandated a.claim) (in_order s) others
    ]
  where
    unseen : (found : Option Arena) → option_map (view_of s) found ≡ None → found ≡ None
    unseen None h = refl
    unseen (Some a) h = cc

number-found : (n : ℕ) (arenas : List Arena) (a : Arena) → arena_at n arenas ≡ Some a → a.number ≡ n
number-found n [] a e = cc
number-found n (b ∷ bs) a e =
    elim (cases_Bool (eqb b.number n)) [
      | inl t ↦ let h : Some b ≡ Some a = rw t at e in omega (arith, same b a h, eqb-true b.number n t)
      | inr f ↦ number-found n bs a (rw f at e)
    ]
  where
    same : (b a : Arena) → Some b ≡ Some a → b.number ≡ a.number
    same b a h = cc

-- an arena's view tells what it is allotted
pub allotment-seen : (s : State) (n : ℕ) (view : ArenaView) → option_map (view_of s) (arena_at n s.arenas) ≡ Some view → view.allot ≡ allotment_of s n
allotment-seen s n view e = seen (arena_at n s.arenas) refl e
  where
    seen : (found : Option Arena) → arena_at n s.arenas ≡ found → option_map (view_of s) found ≡ Some view → view.allot ≡ allotment_of s n
    seen None h g = cc
    seen (Some a) h g =
        let is : view_of s a ≡ view = cc in
        ap (λ (v : ArenaView). v.allot) (sym is) ∙ ap (allotment_of s) (number-found n s.arenas a h)
