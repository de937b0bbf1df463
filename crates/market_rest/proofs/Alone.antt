-- An arena in two markets that are alike for it, of which one is at rest.
use Rattle.std.proofs.Common.{◌≡◌, ℕ, ◌-◌, ◌<◌, ◌≤◌, Bool, true, false, true≢false, cond, eqb, ltb, min, List, [], ◌∷◌, ◌++◌, map, Option, Some, None, refl, sym, ap, ◌∙◌, arith, inl, inr, subst}
use Rattle.std.specs.List.{AllByRecursion, find, flat_map, range_with_len}
use Rattle.std.proofs.lemmas.Bool.{cases_Bool, cases_lt, le-ltb, lt-ltb}
use Rattle.std.proofs.lemmas.List.{map-append}
use Rattle.std.proofs.lemmas.List.Sums.{sum_by-cons}
use Rattle.std.proofs.lemmas.Option.{none-some, same_Some}
use Rattle.market_types.specs.State.{Arena, State}
use Rattle.market_types.specs.Claims.{is_mandated, request_of}
use Rattle.market_types.specs.Allotment.{active_value, all_to, allotment_of, assigned, at_level, bound_of, carried, carry_past, count_at, demand, in_order, levels_of, limit_of, mandatory_pick, share_of, total_request}
use Rattle.market_rest.specs.Alike.{AreAlike, seen_from}
use Rattle.market_rest.proofs.Apart.{each_weaker, in_levels}
use Rattle.market_rest.proofs.Alike.{seen_number, seen_own}
use Rattle.market_rest.proofs.Rest.{cond-no, cond-yes, found_in, none_found}

module _ (a : ℕ) where
  -- what is so of the arena itself
  abbrev IfOwn : (Arena → Type 0) → Arena → Type 0
  IfOwn P b = eqb b.number a ≡ true → P b

  seen_level : (b : Arena) → (seen_from a b).level ≡ b.level
  seen_level b = elim (cases_Bool (eqb b.number a)) [ inl t ↦ rw t refl | inr f ↦ rw f refl ]

  to_seen : (P : Arena → Type 0) (b : Arena) → IfOwn P b → IfOwn P (seen_from a b)
  to_seen P b h e =
      let own : eqb b.number a ≡ true = ap (λ n. eqb n a) (sym (seen_number a b)) ∙ e in
      subst P (sym (seen_own a b own)) (h own)

  from_seen : (P : Arena → Type 0) (b : Arena) → IfOwn P (seen_from a b) → IfOwn P b
  from_seen P b h own = subst P (seen_own a b own) (h (ap (λ n. eqb n a) (seen_number a b) ∙ own))

  all_to_seen : (P : Arena → Type 0) (xs : List Arena) → AllByRecursion (IfOwn P) xs → AllByRecursion (IfOwn P) (map (seen_from a) xs)
  all_to_seen P [] h = tt
  all_to_seen P (x ∷ xs) h = (to_seen P x h.0, all_to_seen P xs h.1)

  all_from_seen : (P : Arena → Type 0) (xs : List Arena) → AllByRecursion (IfOwn P) (map (seen_from a) xs) → AllByRecursion (IfOwn P) xs
  all_from_seen P [] h = tt
  all_from_seen P (x ∷ xs) h = (from_seen P x h.0, all_from_seen P xs h.1)

  carries_over : (P : Arena → Type 0) (xs ys : List Arena) → map (seen_from a) xs ≡ map (seen_from a) ys → AllByRecursion P xs → AllByRecursion (IfOwn P) ys
  carries_over P xs ys e h =
      all_from_seen P ys (subst (AllByRecursion (IfOwn P)) e (all_to_seen P xs (each_weaker P (IfOwn P) (λ x p own. p) xs h)))

  -- what is seen of a level, and of all levels
  level_seen : (level : ℕ) (xs : List Arena) → map (seen_from a) (at_level level xs) ≡ at_level level (map (seen_from a) xs)
  level_seen level [] = refl
  level_seen level (x ∷ xs) =
      let same : eqb (seen_from a x).level level ≡ eqb x.level level = ap (λ n. eqb n level) (seen_level x) in
      elim (cases_Bool (eqb x.level level)) [
        | inl t ↦ rw t (ap (λ l. seen_from a x ∷ l) (level_seen level xs) ∙ sym (cond_yes (eqb (seen_from a x).level level) (seen_from a x ∷ at_level level (map (seen_from a) xs)) (at_level level (map (seen_from a) xs)) (same ∙ t)))
        | inr f ↦ rw f (level_seen level xs ∙ sym (cond_no (eqb (seen_from a x).level level) (seen_from a x ∷ at_level level (map (seen_from a) xs)) (at_level level (map (seen_from a) xs)) (same ∙ f)))
      ]
    where
      cond_yes : (b : Bool) (x y : List Arena) → b ≡ true → cond b x y ≡ x
      cond_yes true x y e = refl
      cond_yes false x y e = absurd (true≢false (sym e))

      cond_no : (b : Bool) (x y : List Arena) → b ≡ false → cond b x y ≡ y
      cond_no true x y e = absurd (true≢false e)
      cond_no false x y e = refl

  levels_seen : (xs : List Arena) (levels : List ℕ) → map (seen_from a) (flat_map (λ level. at_level level xs) levels) ≡ flat_map (λ level. at_level level (map (seen_from a) xs)) levels
  levels_seen xs [] = refl
  levels_seen xs (k ∷ ks) =
      map-append (seen_from a) (at_level k xs) (flat_map (λ level. at_level level xs) ks) ∙ (λ i. level_seen k xs i ++ levels_seen xs ks i)

  order_seen : (s t : State) → AreAlike a s t → map (seen_from a) (in_order s) ≡ map (seen_from a) (in_order t)
  order_seen s t h =
      levels_seen s.arenas (levels_of s)
      ∙ ((λ i. flat_map (λ level. at_level level (h.arenas i)) (range_with_len 1 (h.levels i))) ∙ sym (levels_seen t.arenas (levels_of t)))

  -- ---- where workers may be active
  none_asks : (xs : List Arena) → total_request xs ≡ 0 → AllByRecursion (λ (b : Arena). request_of b.claim ≡ 0) xs
  none_asks [] e = tt
  none_asks (x ∷ xs) e =
      let parts = sum_by-cons (λ (b : Arena). request_of b.claim) x xs in
      ((omega (arith, e, parts)), none_asks xs (omega (arith, e, parts)))

  counts_none : (K D : ℕ → ℕ) (c : ℕ) (xs : List Arena) → AllByRecursion (IfOwn (λ (b : Arena). request_of b.claim ≡ 0)) xs → count_at a (carried K D c xs) ≡ 0
  counts_none K D c [] h = refl
  counts_none K D c (x ∷ xs) h =
      elim (cases_Bool (eqb x.number a)) [
        | inl t ↦ rw t (nothing (h.0 t))
        | inr f ↦ rw f (counts_none K D (carry_past K D c x) xs h.1)
      ]
    where
      nothing : request_of x.claim ≡ 0 → share_of K D c x ≡ 0
      nothing e = rw e refl

  -- ---- where none may be
  found_test : (p : Arena → Bool) (xs : List Arena) (b : Arena) → find p xs ≡ Some b → p b ≡ true
  found_test p [] b e = absurd (none-some b e)
  found_test p (x ∷ xs) b e =
      elim (cases_Bool (p x)) [
        | inl t ↦ let here : Some x ≡ Some b = rw t at e in subst (λ (y : Arena). p y ≡ true) (same_Some x b here) t
        | inr f ↦ let later : find p xs ≡ Some b = rw f at e in found_test p xs b later
      ]

  given_none : (s t : State) (found : Option Arena) (w : ℕ) → AreAlike a s t → mandatory_pick s ≡ None → mandatory_pick t ≡ found → all_to found w a ≡ 0
  given_none s t None w h none e = refl
  given_none s t (Some b) w h none e =
      let mandated : Arena → Bool = λ c. is_mandated c.claim in
      let all = carries_over (λ (c : Arena). mandated c ≡ false) (in_order s) (in_order t) (order_seen s t h) (none_found mandated (in_order s) none) in
      let own = found_in mandated (IfOwn (λ (c : Arena). mandated c ≡ false)) (in_order t) b all e in
      elim (cases_Bool (eqb b.number a)) [
        | inl y ↦ absurd (true≢false (sym (found_test mandated (in_order t) b e) ∙ own y))
        | inr f ↦ rw f refl
      ]

  pub allotted_none : (s t : State) → AreAlike a s t → (0 < limit_of s → total_request s.arenas ≡ 0) → (limit_of s ≡ 0 → mandatory_pick s ≡ None) → allotment_of t a ≡ 0
  allotted_none s t h some none =
      let same : limit_of s ≡ limit_of t = λ i. min (active_value (h.base i) (h.controls i) - 1) (h.hard i) in
      let shared = count_at a (carried (assigned t) (demand t) 0 (in_order t)) in
      let picked = all_to (mandatory_pick t) (bound_of t) a in
      elim (cases_lt 0 (limit_of t)) [
        | inl low ↦
            let unasked = carries_over (λ (b : Arena). request_of b.claim ≡ 0) s.arenas t.arenas h.arenas (none_asks s.arenas (some (omega (arith, same, low)))) in
            let Asks : Arena → Type 0 = IfOwn (λ (b : Arena). request_of b.claim ≡ 0) in
            cond-yes (ltb 0 (limit_of t)) shared picked (lt-ltb 0 (limit_of t) low)
            ∙ counts_none (assigned t) (demand t) 0 (in_order t)
            (each_weaker (λ (b : Arena). Asks b × (1 ≤ b.level)) Asks (λ b g. g.0) (in_order t) (in_levels Asks t.arenas 1 t.levels unasked))
        | inr high ↦
            cond-no (ltb 0 (limit_of t)) shared picked (le-ltb 0 (limit_of t) (omega (arith, high)))
            ∙ given_none s t (mandatory_pick t) (bound_of t) h (none (omega (arith, same, high))) refl
      ]
