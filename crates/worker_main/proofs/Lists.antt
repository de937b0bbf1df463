-- Lists that begin alike, lists with one element changed, and lists place by place.
use Rattle.std.proofs.Common.{◌≡◌, ◌≢◌, ℕ, zero, suc, ◌<◌, List, [], ◌∷◌, ◌++◌, length, set, slice_get, get_or, Some, AllPairs, Contains, refl, ap, sym, ◌∙◌, subst, append_assoc, append-nil}
use Rattle.std.specs.List.{AllZip}
use Rattle.std.proofs.lemmas.Option.{none-some, same_Some, slice_get_within, get_or_from_slice_get}
use mathlib.Core.List.{IsPrefix}

pub prefix_self : {A : Type 0} (xs : List A) → IsPrefix xs xs
prefix_self xs = ([], append-nil xs)

pub prefix_trans : {A : Type 0} (xs ys zs : List A) → IsPrefix xs ys → IsPrefix ys zs → IsPrefix xs zs
prefix_trans xs ys zs p q = (p.0 ++ q.0, sym (append_assoc xs p.0 q.0) ∙ (ap (λ w. w ++ q.0) p.1 ∙ q.1))

-- ---- one element changed

pub set_same : {A : Type 0} (l : List A) (k : ℕ) (p q : A) → slice_get l k ≡ Some p → slice_get (set l k q) k ≡ Some q
set_same [] k p q at = absurd (none-some p at)
set_same (x ∷ xs) zero p q at = refl
set_same (x ∷ xs) (suc k) p q at = set_same xs k p q at

pub set_else : {A : Type 0} (l : List A) (k j : ℕ) (q : A) → j ≢ k → slice_get (set l k q) j ≡ slice_get l j
set_else [] k j q ne = refl
set_else (x ∷ xs) zero zero q ne = absurd (ne refl)
set_else (x ∷ xs) zero (suc j) q ne = refl
set_else (x ∷ xs) (suc k) zero q ne = refl
set_else (x ∷ xs) (suc k) (suc j) q ne = set_else xs k j q (λ e. ne (ap suc e))

-- ---- place by place

pub zip_self : {A : Type 0} (R : A → A → Type 0) → ((x : A) → R x x) → (xs : List A) → AllZip R xs xs
zip_self R f [] = tt
zip_self R f (x ∷ xs) = (f x, zip_self R f xs)

pub zip_set : {A B : Type 0} (R : A → B → Type 0) (xs : List A) (ys : List B) (k : ℕ) (p q : B) → ((x : A) → R x p → R x q) → slice_get ys k ≡ Some p → AllZip R xs ys → AllZip R xs (set ys k q)
zip_set R [] [] k p q f at z = z
zip_set R [] (y ∷ ys) k p q f at z = absurd z
zip_set R (x ∷ xs) [] k p q f at z = absurd z
zip_set R (x ∷ xs) (y ∷ ys) zero p q f at z = (f x (subst (R x) (same_Some y p at) z.0), z.1)
zip_set R (x ∷ xs) (y ∷ ys) (suc k) p q f at z = (z.0, zip_set R xs ys k p q f at z.1)

pub zip_trans : {A B C : Type 0} (R : A → B → Type 0) (S : B → C → Type 0) (T : A → C → Type 0) → ((x : A) (y : B) (z : C) → R x y → S y z → T x z) → (xs : List A) (ys : List B) (zs : List C) → AllZip R xs ys → AllZip S ys zs → AllZip T xs zs
zip_trans R S T f [] [] [] a b = b
zip_trans R S T f [] [] (z ∷ zs) a b = absurd b
zip_trans R S T f [] (y ∷ ys) zs a b = absurd a
zip_trans R S T f (x ∷ xs) [] zs a b = absurd a
zip_trans R S T f (x ∷ xs) (y ∷ ys) [] a b = absurd b
zip_trans R S T f (x ∷ xs) (y ∷ ys) (z ∷ zs) a b = (f x y z a.0 b.0, zip_trans R S T f xs ys zs a.1 b.1)

-- the element at the same place of the second list
pub zip_at : {A B : Type 0} (R : A → B → Type 0) (xs : List A) (ys : List B) (k : ℕ) (x : A) → AllZip R xs ys → slice_get xs k ≡ Some x → (y : B) × (slice_get ys k ≡ Some y) × R x y
zip_at R [] ys k x z at = absurd (none-some x at)
zip_at R (w ∷ xs) [] k x z at = absurd z
zip_at R (w ∷ xs) (y ∷ ys) zero x z at = (y, refl, subst (λ v. R v y) (same_Some w x at) z.0)
zip_at R (w ∷ xs) (y ∷ ys) (suc k) x z at = zip_at R xs ys k x z.1 at

-- two places of which a fact of all pairs tells
pub pair_at : {A : Type 0} (R : A → A → Type 0) (xs : List A) (i j : ℕ) (x y : A) → i < j → AllPairs R xs → slice_get xs i ≡ Some x → slice_get xs j ≡ Some y → R x y
pair_at R xs i j x y lt all at there =
    subst (λ v. R v y) (get_or_from_slice_get xs i x x at)
    (subst (λ w. R (get_or xs i x) w) (get_or_from_slice_get xs j y x there) (all i j x lt (slice_get_within xs j y there)))

-- what stands at a place of the second list
pub zip_read : {A B : Type 0} (R : A → B → Type 0) (xs : List A) (ys : List B) (k : ℕ) (x : A) (p : B) → AllZip R xs ys → slice_get xs k ≡ Some x → p ≡ get_or ys k p → (slice_get ys k ≡ Some p) × R x p
zip_read R xs ys k x p z at e =
    let y = zip_at R xs ys k x z at in
    let same : p ≡ y.0 = e ∙ get_or_from_slice_get ys k y.0 p y.1 in
    (y.1 ∙ ap Some (sym same), subst (R x) (sym same) y.2)

pub zip_within : {A B : Type 0} (R : A → B → Type 0) (xs : List A) (ys : List B) (k : ℕ) (x : A) → AllZip R xs ys → slice_get xs k ≡ Some x → k < length ys
zip_within R xs ys k x z at = let y = zip_at R xs ys k x z at in slice_get_within ys k y.0 y.1

pub contains_at : {A : Type 0} (xs : List A) (k : ℕ) (x : A) → slice_get xs k ≡ Some x → Contains xs x
contains_at xs k x at = (k, slice_get_within xs k x at, get_or_from_slice_get xs k x x at)
