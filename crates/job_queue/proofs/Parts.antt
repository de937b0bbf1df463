-- A list in parts by the numbers of some passes: the parts together have its elements, each once.
use Rattle.std.proofs.Common.{◌≡◌, ℕ, ◌≤◌, ◌==◌, ◌≢◌, not, List, [], ◌∷◌, ◌++◌, map, cond, Bool, inl, inr, refl, ap, sym, ◌∙◌, subst, arith, eq-eqb, ne_eqb}
use mathlib.Core.Logic.{dite}
use native.Mathlib.Decide.{ℕ_discrete}
use Rattle.std.specs.List.{filter, flat_map, AllByRecursion}
use Rattle.std.specs.List.Sorted.{IsPermutation}
use Rattle.std.proofs.lemmas.List.{map-append}
use Rattle.std.proofs.lemmas.List.Sorted.{IsPermutation-refl, IsPermutation-trans, IsPermutation-append_right, IsPermutation-filter_both}
use Rattle.job_queue.specs.declared.view.Known.{Known}
use Rattle.job_queue.specs.Rule.{times, HasNumber}
use Rattle.job_queue.proofs.Views.{counts, differs}

pub flat_map_same : {A B : Type 0} (f g : A → List B) (xs : List A) → AllByRecursion (λ x. f x ≡ g x) xs → flat_map f xs ≡ flat_map g xs
flat_map_same f g [] h = refl
flat_map_same f g (x ∷ xs) h = λ i. h.0 i ++ flat_map_same f g xs h.1 i

pub map-flat_map : {A B C : Type 0} (f : B → C) (g : A → List B) (xs : List A) → map f (flat_map g xs) ≡ flat_map (λ x. map f (g x)) xs
map-flat_map f g [] = refl
map-flat_map f g (x ∷ xs) = map-append f (g x) (flat_map g xs) ∙ ap (λ l. map f (g x) ++ l) (map-flat_map f g xs)

module _ {A : Type 0} (key : A → ℕ) where
  abbrev others : ℕ → List A → List A
  others n xs = filter (λ (x : A). not (key x == n)) xs

  -- taking out the elements of another number takes none of this number out
  stays : (n m : ℕ) → n ≢ m → (xs : List A) → filter (λ (x : A). key x == m) xs ≡ filter (λ (x : A). key x == m) (others n xs)
  stays n m ne [] = refl
  stays n m ne (x ∷ xs) =
      let rest = stays n m ne xs in
      let left : List A = filter (λ (y : A). key y == m) xs in
      let out : List A → List A = λ l. filter (λ (y : A). key y == m) l in
      dite (ℕ_discrete (key x) n)
      (λ e. ap (λ b. cond b (x ∷ left) left) (ne_eqb (key x) m (λ e'. ne (sym e ∙ e')))
      ∙ (rest ∙ sym (ap (λ b. out (cond (not b) (x ∷ others n xs) (others n xs))) (eq-eqb (key x) n e))))
      (λ other. ap (λ (l : List A). cond (key x == m) (x ∷ l) l) rest
      ∙ sym (ap (λ b. out (cond (not b) (x ∷ others n xs) (others n xs))) (ne_eqb (key x) n other)))

module _ {J A : Type 0} (key : A → ℕ) where
  abbrev part : List A → Known J → List A
  part xs k = filter (λ (x : A). key x == k.number) xs

  parts_stay : (n : ℕ) (ks : List (Known J)) (xs : List A) → times n ks ≡ 0 → flat_map (part xs) ks ≡ flat_map (part (others key n xs)) ks
  parts_stay n [] xs nil = refl
  parts_stay n (k ∷ ks) xs nil = let ne = differs n k ks nil in λ i. stays key n k.number ne xs i ++ parts_stay n ks xs (let h = nil in omega arith) i

  -- what is left has numbers that are left
  step_covered : (k : Known J) (ks : List (Known J)) (x : A) (l : List A) → HasNumber (key x) (k ∷ ks) → AllByRecursion (λ (y : A). HasNumber (key y) ks) l
      → AllByRecursion (λ (y : A). HasNumber (key y) ks) (cond (not (key x == k.number)) (x ∷ l) l)
  step_covered k ks x l has all =
      let P : Bool → Type 0 = λ b. AllByRecursion (λ (y : A). HasNumber (key y) ks) (cond (not b) (x ∷ l) l) in
      dite (ℕ_discrete (key x) k.number)
      (λ e. subst P (sym (eq-eqb (key x) k.number e)) all)
      (λ ne. subst P (sym (ne_eqb (key x) k.number ne)) (later has ne, all))
    where
      later : HasNumber (key x) (k ∷ ks) → key x ≢ k.number → HasNumber (key x) ks
      later (inl e) ne = absurd (ne (sym e))
      later (inr h) ne = h

  others_covered : (k : Known J) (ks : List (Known J)) (xs : List A) → AllByRecursion (λ (x : A). HasNumber (key x) (k ∷ ks)) xs → AllByRecursion (λ (x : A). HasNumber (key x) ks) (others key k.number xs)
  others_covered k ks [] h = tt
  others_covered k ks (x ∷ xs) h = step_covered k ks x (others key k.number xs) h.0 (others_covered k ks xs h.1)

  pub parts : (ks : List (Known J)) → ((n : ℕ) → times n ks ≤ 1) → (xs : List A) → AllByRecursion (λ (x : A). HasNumber (key x) ks) xs → IsPermutation xs (flat_map (part xs) ks)
  parts [] once [] h = IsPermutation-refl []
  parts [] once (x ∷ xs) h = absurd h.0
  parts (k ∷ ks) once xs h =
      let n = k.number in
      let none : times n ks ≡ 0 = let a = once n in let b = counts k ks in omega arith in
      let split = IsPermutation-filter_both (λ (x : A). key x == n) (λ (x : A). not (key x == n)) (λ x. refl) xs in
      let rest = parts ks (λ m. let a = once m in omega arith) (others key n xs) (others_covered k ks xs h) in
      let same : flat_map (part (others key n xs)) ks ≡ flat_map (part xs) ks = sym (parts_stay n ks xs none) in
      subst (λ (l : List A). IsPermutation xs (part xs k ++ l)) same
      (IsPermutation-trans _ _ _ split (IsPermutation-append_right (part xs k) (others key n xs) (flat_map (part (others key n xs)) ks) rest))
