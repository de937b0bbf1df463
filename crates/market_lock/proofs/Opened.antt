-- Passes that are dealt one by one.
use Rattle.std.specs.Prelude.{slice_get}
use Rattle.std.proofs.Common.{◌≡◌, ℕ, zero, suc, ◌+◌, ◌<◌, List, [], ◌∷◌, ◌++◌, length, Some, refl, ap, sym, ◌∙◌}
use borrow.Author.Count.{below_more}
use Rattle.market_lock.specs.Seen.{OfPass, OfOffice, fresh}

at-longer : (xs ys : List OfPass) (k : ℕ) (p : OfPass) → slice_get xs k ≡ Some p → slice_get (xs ++ ys) k ≡ Some p
at-longer [] ys k p e = absurd cc
at-longer (x ∷ xs) ys zero p e = e
at-longer (x ∷ xs) ys (suc k) p e = at-longer xs ys k p e

at-last : (xs : List OfPass) (p : OfPass) → slice_get (xs ++ p ∷ []) (length xs) ≡ Some p
at-last [] p = refl
at-last (x ∷ xs) p = at-last xs p

pub one-fresh : (o : OfOffice) (xs ys : List OfPass) (x : OfPass) (n : ℕ) → ys ≡ xs ++ x ∷ [] → length xs ≡ n → x ≡ fresh o n → ((k : ℕ) → k < n → slice_get xs k ≡ Some (fresh o k))
    → (k : ℕ) → k < n + 1 → slice_get ys k ≡ Some (fresh o k)
one-fresh o xs ys x n is long this all = below_more (λ k. slice_get ys k ≡ Some (fresh o k)) n
    (λ k h. ap (λ l. slice_get l k) is ∙ at-longer xs (x ∷ []) k (fresh o k) (all k h))
    (ap (λ l. slice_get l n) is ∙ (ap (λ m. slice_get (xs ++ x ∷ []) m) (sym long) ∙ (at-last xs x ∙ ap (λ p. Some p) this)))
