-- As many different numbers as there are below a bound are all of them.
use Rattle.std.proofs.Common.{◌≡◌, ℕ, zero, suc, ◌+◌, ◌<◌, ◌≤◌, ◌≢◌, ◌==◌, List, [], ◌∷◌, length, cond, Bool, ◌⊎◌, ◌++◌, ⊎_elim, inl, inr, refl, ap, sym, ◌∙◌, arith, eq-eqb, ne_eqb}
use mathlib.Core.Logic.{dite}
use native.Mathlib.Decide.{ℕ_discrete}
use Rattle.job_queue.specs.declared.view.Known.{Known}
use Rattle.std.specs.List.{AllByRecursion}
use Rattle.job_queue.specs.Rule.{times, HasNumber}

-- the sum of f over all numbers below m
abbrev upto : (ℕ → ℕ) → ℕ → ℕ
upto f zero = 0
upto f (suc m) = f m + upto f m

upto_none : (f : ℕ → ℕ) (m : ℕ) → ((n : ℕ) → n < m → f n ≡ 0) → upto f m ≡ 0
upto_none f zero h = refl
upto_none f (suc m) h = let here = h m (omega arith) in let rest = upto_none f m (λ n lt. h n (omega arith)) in omega arith

upto_add : (f g h : ℕ → ℕ) (m : ℕ) → ((n : ℕ) → h n ≡ f n + g n) → upto h m ≡ upto f m + upto g m
upto_add f g h zero e = refl
upto_add f g h (suc m) e = let here = e m in let rest = upto_add f g h m e in omega arith

abbrev pub test : ℕ → ℕ → ℕ
test j n = cond (j == n) 1 0

pub test_same : (j n : ℕ) → j ≡ n → test j n ≡ 1
test_same j n e = ap (λ (b : Bool). cond b 1 0) (eq-eqb j n e)

pub test_other : (j n : ℕ) → j ≢ n → test j n ≡ 0
test_other j n e = ap (λ (b : Bool). cond b 1 0) (ne_eqb j n e)

upto_one : (j m : ℕ) → j < m → upto (test j) m ≡ 1
upto_one j zero lt = absurd (omega arith)
upto_one j (suc m) lt = dite (ℕ_discrete j m)
    (λ e. let here = test_same j m e in let rest = upto_none (test j) m (λ n l. test_other j n (λ q. omega arith)) in omega arith)
    (λ ne. let here = test_other j m ne in let rest = upto_one j m (omega arith) in omega arith)

upto_most : (f : ℕ → ℕ) (m : ℕ) → ((n : ℕ) → f n ≤ 1) → upto f m ≤ m
upto_most f zero h = omega arith
upto_most f (suc m) h = let here = h m in let rest = upto_most f m h in omega arith

upto_less : (f : ℕ → ℕ) (m n : ℕ) → ((i : ℕ) → f i ≤ 1) → n < m → f n ≡ 0 → upto f m < m
upto_less f zero n h lt nil = absurd (omega arith)
upto_less f (suc m) n h lt nil = dite (ℕ_discrete n m)
    (λ e. let here : f m ≡ 0 = ap f (sym e) ∙ nil in let rest = upto_most f m h in omega arith)
    (λ ne. let here = h m in let rest = upto_less f m n h (omega arith) nil in omega arith)

module _ {J : Type 0} where
  upto_all : (m : ℕ) (ks : List (Known J)) → AllByRecursion (λ (k : Known J). k.number < m) ks → upto (λ n. times n ks) m ≡ length ks
  upto_all m [] h = upto_none (λ n. 0) m (λ n lt. refl)
  upto_all m (k ∷ ks) h =
      let sum = upto_add (test k.number) (λ n. times n ks) (λ n. times n (k ∷ ks)) m (λ n. refl) in
      let one = upto_one k.number m h.0 in
      let rest = upto_all m ks h.1 in
      omega arith

  has : (n : ℕ) (ks : List (Known J)) → times n ks ≢ 0 → HasNumber n ks
  has n [] h = h refl
  has n (k ∷ ks) h = dite (ℕ_discrete k.number n) (λ e. inl e) (λ ne. inr (has n ks (λ nil. h (let t = test_other k.number n ne in omega arith))))

  pub has_all : (made n : ℕ) (ks : List (Known J)) → AllByRecursion (λ (k : Known J). k.number < made) ks → made ≤ length ks → ((i : ℕ) → times i ks ≤ 1) → n < made → HasNumber n ks
  has_all made n ks below long most lt = has n ks (λ nil. let all = upto_all made ks below in let less = upto_less (λ i. times i ks) made n most lt nil in omega arith)

  has_or : (n : ℕ) (xs ys : List (Known J)) → HasNumber n (xs ++ ys) → HasNumber n xs ⊎ HasNumber n ys
  has_or n [] ys h = inr h
  has_or n (x ∷ xs) ys (inl e) = inl (inl e)
  has_or n (x ∷ xs) ys (inr h) = elim (has_or n xs ys h) [ inl a ↦ inl (inr a) | inr b ↦ inr b ]

  -- none of these passes has it
  has_none : (n : ℕ) (ks : List (Known J)) → AllByRecursion (λ (k : Known J). k.number ≢ n) ks → HasNumber n ks → ⊥
  has_none n [] a h = h
  has_none n (k ∷ ks) a (inl e) = a.0 e
  has_none n (k ∷ ks) a (inr h) = has_none n ks a.1 h

  pub has_left : (n : ℕ) (xs ys : List (Known J)) → AllByRecursion (λ (k : Known J). k.number ≢ n) ys → HasNumber n (xs ++ ys) → HasNumber n xs
  has_left n xs ys a h = ⊎_elim (λ (p : HasNumber n xs). p) (λ (p : HasNumber n ys). absurd (has_none n ys a p)) (has_or n xs ys h)

  pub has_right : (n : ℕ) (xs ys : List (Known J)) → AllByRecursion (λ (k : Known J). k.number ≢ n) xs → HasNumber n (xs ++ ys) → HasNumber n ys
  has_right n xs ys a h = ⊎_elim (λ (p : HasNumber n xs). absurd (has_none n xs a p)) (λ (p : HasNumber n ys). p) (has_or n xs ys h)
