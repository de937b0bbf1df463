-- Facts about all views, where one of them changes, or one is added.
use Rattle.std.proofs.Common.{◌≡◌, ℕ, zero, suc, ◌+◌, ◌≤◌, ◌≢◌, ◌==◌, ◌⊎◌, List, [], ◌∷◌, ◌++◌, length, cond, Bool, set, inl, inr, ⊎_elim, refl, ap, sym, subst, arith, eq-eqb}
use mathlib.Core.Option.{some, some-injective, some-ne-none}
use lib.ListN.{get_elem?}
use Rattle.crossbeam_queue.proofs.Lists.{at_set}
use Rattle.job_queue.specs.declared.view.Known.{Known}
use Rattle.job_queue.specs.declared.view.View.{View}
use Rattle.job_queue.specs.Views.{records_of}
use Rattle.job_queue.specs.Rule.{times, total}

module _ {J : Type 0} where
  at_snoc : (l : List (View J)) (a b : View J) (j : ℕ) → get_elem? (l ++ a ∷ []) j ≡ some b → (get_elem? l j ≡ some b) ⊎ ((j ≡ length l) × (a ≡ b))
  at_snoc [] a b zero e = inr (refl, some-injective a b e)
  at_snoc [] a b (suc j) e = absurd (some-ne-none b (sym e))
  at_snoc (x ∷ xs) a b zero e = inl e
  at_snoc (x ∷ xs) a b (suc j) e = elim (at_snoc xs a b j e) [ inl h ↦ inl h | inr h ↦ inr (omega arith, h.1) ]

  -- a fact about each seat and its view
  pub each_set : (P : ℕ → View J → Type 0) (vs : List (View J)) (me : ℕ) (w : View J) → P me w → ((j : ℕ) (v : View J) → j ≢ me → get_elem? vs j ≡ some v → P j v)
      → (j : ℕ) (v : View J) → get_elem? (set vs me w) j ≡ some v → P j v
  each_set P vs me w mine others j v e = ⊎_elim (λ (t : (j ≡ me) × (w ≡ v)). subst (λ (x : ℕ × View J). P x.0 x.1) (λ i. (sym t.0 i, t.1 i)) mine)
      (λ (t : (j ≢ me) × (get_elem? vs j ≡ some v)). others j v t.0 t.1) (at_set vs me j w v e)

  pub each_snoc : (P : ℕ → View J → Type 0) (vs : List (View J)) (w : View J) → P (length vs) w → ((j : ℕ) (v : View J) → get_elem? vs j ≡ some v → P j v)
      → (j : ℕ) (v : View J) → get_elem? (vs ++ w ∷ []) j ≡ some v → P j v
  each_snoc P vs w mine others j v e = ⊎_elim (λ (t : get_elem? vs j ≡ some v). others j v t)
      (λ (t : (j ≡ length vs) × (w ≡ v)). subst (λ (x : ℕ × View J). P x.0 x.1) (λ i. (sym t.0 i, t.1 i)) mine) (at_snoc vs w v j e)

  pub times-append : (n : ℕ) (xs ys : List (Known J)) → times n (xs ++ ys) ≡ times n xs + times n ys
  times-append n [] ys = omega arith
  times-append n (x ∷ xs) ys = let rest = times-append n xs ys in omega arith

  pub total_set : (n : ℕ) (vs : List (View J)) (me : ℕ) (v w : View J) → get_elem? vs me ≡ some v → total n (set vs me w) + times n (records_of v) ≡ total n vs + times n (records_of w)
  total_set n [] me v w at = absurd (some-ne-none v (sym at))
  total_set n (x ∷ xs) zero v w at = let same = ap (λ (u : View J). times n (records_of u)) (some-injective x v at) in omega arith
  total_set n (x ∷ xs) (suc me) v w at = let rest = total_set n xs me v w at in omega arith

  pub total_snoc : (n : ℕ) (vs : List (View J)) (w : View J) → total n (vs ++ w ∷ []) ≡ total n vs + times n (records_of w)
  total_snoc n [] w = omega arith
  total_snoc n (x ∷ xs) w = let rest = total_snoc n xs w in omega arith

  pub total_one : (n : ℕ) (vs : List (View J)) (i : ℕ) (v : View J) → get_elem? vs i ≡ some v → times n (records_of v) ≤ total n vs
  total_one n [] i v at = absurd (some-ne-none v (sym at))
  total_one n (x ∷ xs) zero v at = let same = ap (λ (u : View J). times n (records_of u)) (some-injective x v at) in omega arith
  total_one n (x ∷ xs) (suc i) v at = let rest = total_one n xs i v at in omega arith

  pub total_two : (n : ℕ) (vs : List (View J)) (i j : ℕ) (v w : View J) → i ≢ j → get_elem? vs i ≡ some v → get_elem? vs j ≡ some w → times n (records_of v) + times n (records_of w) ≤ total n vs
  total_two n [] i j v w ne p q = absurd (some-ne-none v (sym p))
  total_two n (x ∷ xs) zero zero v w ne p q = absurd (ne refl)
  total_two n (x ∷ xs) zero (suc j) v w ne p q = let same = ap (λ (u : View J). times n (records_of u)) (some-injective x v p) in let rest = total_one n xs j w q in omega arith
  total_two n (x ∷ xs) (suc i) zero v w ne p q = let same = ap (λ (u : View J). times n (records_of u)) (some-injective x w q) in let rest = total_one n xs i v p in omega arith
  total_two n (x ∷ xs) (suc i) (suc j) v w ne p q = let rest = total_two n xs i j v w (λ e. ne (ap suc e)) p q in omega arith

  -- a pass counts for its own number
  pub counts : (k : Known J) (ks : List (Known J)) → times k.number (k ∷ ks) ≡ 1 + times k.number ks
  counts k ks = ap (λ b. cond b 1 0 + times k.number ks) (eq-eqb k.number k.number refl)

  pub differs : (n : ℕ) (k : Known J) (ks : List (Known J)) → times n (k ∷ ks) ≡ 0 → n ≢ k.number
  differs n k ks nil e =
      let P : Bool → ℕ = λ b. cond b 1 0 in
      let here : P (k.number == n) ≡ 1 = ap P (eq-eqb k.number n (sym e)) in
      omega (arith, here, nil)
