-- A market in which nobody is placed and none is in need.
use Rattle.std.specs.Prelude.{◌&&◌}
use Rattle.std.proofs.Common.{◌≡◌, true≢false, ℕ, ◌<◌, Bool, true, false, cond, eqb, ltb, List, [], ◌∷◌, Option, Some, None, refl, sym, ap, ◌∙◌, arith, inl, inr, subst}
use Rattle.std.specs.List.{All, AllByRecursion, find, flat_map, sum_by}
use Rattle.std.proofs.lemmas.Bool.{cases_Bool, cases_lt, eq-eqb, le-ltb, lt-ltb, ltb-false}
use Rattle.std.proofs.lemmas.List.Elements.{All-append, All-cons, All-filter, All-head, All-nil, All-tail}
use Rattle.std.proofs.lemmas.List.Sums.{sum_by-cons}
use Rattle.market_types.specs.State.{Arena, State}
use Rattle.market_types.specs.Claims.{is_mandated, request_of}
use Rattle.market_types.specs.Allotment.{active, allotment_of, at_level, has_mandatory, assigned, bound_of, carried, carry_past, count_at, demand, effective_limit_of, levels_of, hire, in_order, limit_of, mandatory_pick, all_to, need, share_of, total_request}
use Rattle.allotment.specs.Levels.{IsLeveled, workers_of}
use Rattle.market_rest.specs.Apart.{AreApart}
use Rattle.market_rest.proofs.Apart.{each_weaker}

some-none : (a : Arena) → Some a ≡ None → ⊥
some-none a h = cc

-- none is found
pub none_found : (p : Arena → Bool) (xs : List Arena) → find p xs ≡ None → AllByRecursion (λ (a : Arena). p a ≡ false) xs
none_found p [] e = tt
none_found p (x ∷ xs) e =
    elim (cases_Bool (p x)) [
      | inl t ↦ let h : Some x ≡ None = rw t at e in absurd (some-none x h)
      | inr f ↦ let h : find p xs ≡ None = rw f at e in (f, none_found p xs h)
    ]

behind : (n own : ℕ) (rest : List (ℕ × ℕ)) (xs : List Arena) → AllByRecursion (λ (y : Arena). eqb n y.number ≡ false) xs
    → AllByRecursion (λ (y : Arena). count_at y.number ((n, own) ∷ rest) ≡ 0) xs → AllByRecursion (λ (y : Arena). count_at y.number rest ≡ 0) xs
behind n own rest [] apart h = tt
behind n own rest (x ∷ xs) apart h = ((let e = h.0 in let f = apart.0 in rw f at e), behind n own rest xs apart.1 h.1)

-- arenas of different numbers that are allotted nothing are given nothing
given_none : (K D : ℕ → ℕ) (c : ℕ) (xs : List Arena) → AreApart xs → AllByRecursion (λ (a : Arena). count_at a.number (carried K D c xs) ≡ 0) xs → sum_by workers_of (carried K D c xs) ≡ 0
given_none K D c [] apart h = refl
given_none K D c (x ∷ xs) apart h =
    let rest = carried K D (carry_past K D c x) xs in
    let own : share_of K D c x ≡ 0 = let e = h.0 in rw (eq-eqb x.number x.number refl) at e in
    let others = given_none K D (carry_past K D c x) xs apart.1 (behind x.number (share_of K D c x) rest xs apart.0 h.1) in
    omega (arith, own, others, sum_by-cons workers_of (x.number, share_of K D c x) rest)

pub cond-yes : (b : Bool) (x y : ℕ) → b ≡ true → cond b x y ≡ x
cond-yes true x y e = refl
cond-yes false x y e = cc

pub at_rest : ((s : State) → IsLeveled s → sum_by workers_of (carried (assigned s) (demand s) 0 (in_order s)) ≡ bound_of s)
    → (s : State) → IsLeveled s → AreApart (in_order s) → ((n : ℕ) → active s n ≡ 0) → need s ≡ None → 0 < limit_of s → total_request s.arenas ≡ 0
at_rest given s leveled apart free none some =
    let some_limit : ltb 0 (limit_of s) ≡ true = lt-ltb 0 (limit_of s) some in
    let es = carried (assigned s) (demand s) 0 (in_order s) in
    let lacking = none_found (λ (a : Arena). ltb 0 (hire s a.number)) (in_order s) none in
    let nothing =
    each_weaker (λ (a : Arena). ltb 0 (hire s a.number) ≡ false) (λ (a : Arena). count_at a.number es ≡ 0)
    (λ a f.
    let allotted : allotment_of s a.number ≡ count_at a.number es = cond-yes (ltb 0 (limit_of s)) (count_at a.number es) (all_to (mandatory_pick s) (bound_of s) a.number) some_limit in
    omega (arith, allotted, free a.number, ltb-false 0 (hire s a.number) f))
    (in_order s) lacking in
    let bound : bound_of s ≡ 0 = sym (given s leveled) ∙ given_none (assigned s) (demand s) 0 (in_order s) apart nothing in
    let limit : effective_limit_of s ≡ limit_of s = cond-yes (ltb 0 (limit_of s)) (limit_of s) _ some_limit in
    omega (arith, bound, limit, some)

-- ---- where no worker may be active

abbrev IsUnmandated : Arena → Type 0
IsUnmandated a = is_mandated a.claim ≡ false

unmandated_in_order : (arenas : List Arena) (levels : List ℕ) → All IsUnmandated arenas → All IsUnmandated (flat_map (λ level. at_level level arenas) levels)
unmandated_in_order arenas [] h = All-nil IsUnmandated
unmandated_in_order arenas (k ∷ ks) h =
    All-append IsUnmandated (at_level k arenas) (flat_map (λ level. at_level level arenas) ks) (All-filter (λ (b : Arena). eqb b.level k) IsUnmandated arenas h) (unmandated_in_order arenas ks h)

find-none : (xs : List Arena) → All IsUnmandated xs → find (λ (a : Arena). is_mandated a.claim) xs ≡ None
find-none [] h = refl
find-none (x ∷ xs) h = rw (All-head IsUnmandated x xs h) (find-none xs (All-tail IsUnmandated x xs h))

-- none asks for anything
unasked : (arenas : List Arena) → total_request arenas ≡ 0 → All IsUnmandated arenas
unasked [] e = All-nil IsUnmandated
unasked (x ∷ xs) e =
    let parts = sum_by-cons (λ (a : Arena). request_of a.claim) x xs in
    let none : request_of x.claim ≡ 0 = omega (arith, e, parts) in
    All-cons IsUnmandated x xs (rw none refl) (unasked xs (omega (arith, e, parts)))

and-false : (b c : Bool) → c ≡ false → (b && c) ≡ false
and-false true c e = e
and-false false c e = refl

-- none has enqueued work
unworked : (arenas : List Arena) → has_mandatory arenas ≡ false → All IsUnmandated arenas
unworked [] e = All-nil IsUnmandated
unworked (x ∷ xs) e =
    elim (cases_Bool (ltb 0 x.claim.mandatory)) [
      | inl t ↦ absurd (let h : true ≡ false = rw t at e in true≢false h)
      | inr f ↦ let h : has_mandatory xs ≡ false = rw f at e in All-cons IsUnmandated x xs (and-false (ltb 0 (request_of x.claim)) (ltb 0 x.claim.mandatory) f) (unworked xs h)
    ]

none-some : (a : Arena) → None ≡ Some a → ⊥
none-some a h = cc

-- what is found stands in the list
pub found_in : (p : Arena → Bool) (P : Arena → Type 0) (xs : List Arena) (a : Arena) → AllByRecursion P xs → find p xs ≡ Some a → P a
found_in p P [] a h e = absurd (none-some a e)
found_in p P (x ∷ xs) a h e =
    elim (cases_Bool (p x)) [
      | inl t ↦ let here : Some x ≡ Some a = rw t at e in subst P (same x a here) h.0
      | inr f ↦ let later : find p xs ≡ Some a = rw f at e in found_in p P xs a h.1 later
    ]
  where
    same : (x a : Arena) → Some x ≡ Some a → x ≡ a
    same x a e = cc

pub cond-no : (b : Bool) (x y : ℕ) → b ≡ false → cond b x y ≡ y
cond-no true x y e = cc
cond-no false x y e = refl

picked_none : (s : State) (found : Option Arena) → mandatory_pick s ≡ found → ((n : ℕ) → active s n ≡ 0) → need s ≡ None → limit_of s ≡ 0 → found ≡ None
picked_none s None is free none zero_limit = refl
picked_none s (Some a) is free none zero_limit =
    let no_limit : ltb 0 (limit_of s) ≡ false = le-ltb 0 (limit_of s) (omega (arith, zero_limit)) in
    let lacking = none_found (λ (b : Arena). ltb 0 (hire s b.number)) (in_order s) none in
    let own : ltb 0 (hire s a.number) ≡ false = found_in (λ (b : Arena). is_mandated b.claim) (λ (b : Arena). ltb 0 (hire s b.number) ≡ false) (in_order s) a lacking is in
    let picked : allotment_of s a.number ≡ bound_of s =
    cond-no (ltb 0 (limit_of s)) (count_at a.number (carried (assigned s) (demand s) 0 (in_order s))) (all_to (mandatory_pick s) (bound_of s) a.number) no_limit
    ∙ (ap (λ o. all_to o (bound_of s) a.number) is ∙ cond-yes (eqb a.number a.number) (bound_of s) 0 (eq-eqb a.number a.number refl)) in
    let bound : bound_of s ≡ 0 = omega (arith, picked, free a.number, ltb-false 0 (hire s a.number) own) in
    let unmandated : All IsUnmandated s.arenas → ⊥ = λ all. none-some a (sym (find-none (in_order s) (unmandated_in_order s.arenas (levels_of s) all)) ∙ is) in
    elim (cases_lt 0 (total_request s.arenas)) [
      | inl some ↦
          elim (cases_Bool (has_mandatory s.arenas)) [
            | inl t ↦
                let limit : effective_limit_of s ≡ 1 =
                cond-no (ltb 0 (limit_of s)) (limit_of s) (cond (has_mandatory s.arenas) 1 0) no_limit ∙ cond-yes (has_mandatory s.arenas) 1 0 t in
                absurd (omega (arith, bound, limit, some))
            | inr f ↦ absurd (unmandated (unworked s.arenas f))
          ]
      | inr few ↦ absurd (unmandated (unasked s.arenas (omega (arith, few))))
    ]

pub none_picked : (s : State) → ((n : ℕ) → active s n ≡ 0) → need s ≡ None → limit_of s ≡ 0 → mandatory_pick s ≡ None
none_picked s free none zero_limit = picked_none s (mandatory_pick s) refl free none zero_limit
