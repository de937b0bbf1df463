-- Facts about all views, where one of them changes, or one is added.
use Rattle.std.proofs.Common.{◌≡◌, ℕ, zero, suc, ◌+◌, ◌≤◌, ◌≢◌, List, [], ◌∷◌, ◌++◌, length, set, ⊎_elim, refl, ap, sym, subst, arith}
use mathlib.Core.Option.{some, some-injective, some-ne-none}
use lib.ListN.{get_elem?}
use Rattle.atomic_table.proofs.Lists.{at_set}
use Rattle.market_lock.specs.declared.view.Cut.{Cut}
use Rattle.market_lock.specs.declared.view.View.{View}
use Rattle.market_lock.specs.declared.view.View.TheVariants.{Opener, Outside, Holder, Closer, Spent}
use Rattle.market_lock.specs.Rule.{seat_of, weight, parts_in, total, Apart, IsGone}
use Rattle.market_lock.proofs.Fronts.{at_snoc}

-- a fact about each seat and its view
pub each_set : (P : ℕ → View → Type 0) (vs : List View) (me : ℕ) (w : View) → P me w → ((j : ℕ) (v : View) → j ≢ me → get_elem? vs j ≡ some v → P j v)
    → (j : ℕ) (v : View) → get_elem? (set vs me w) j ≡ some v → P j v
each_set P vs me w mine others j v e = ⊎_elim (λ (t : (j ≡ me) × (w ≡ v)). subst (λ (x : ℕ × View). P x.0 x.1) (λ i. (sym t.0 i, t.1 i)) mine)
    (λ (t : (j ≢ me) × (get_elem? vs j ≡ some v)). others j v t.0 t.1) (at_set vs me j w v e)

pub each_snoc : (P : ℕ → View → Type 0) (vs : List View) (w : View) → P (length vs) w → ((j : ℕ) (v : View) → get_elem? vs j ≡ some v → P j v)
    → (j : ℕ) (v : View) → get_elem? (vs ++ w ∷ []) j ≡ some v → P j v
each_snoc P vs w mine others j v e = ⊎_elim (λ (t : get_elem? vs j ≡ some v). others j v t)
    (λ (t : (j ≡ length vs) × (w ≡ v)). subst (λ (x : ℕ × View). P x.0 x.1) (λ i. (sym t.0 i, t.1 i)) mine) (at_snoc vs w v j e)

-- the view w has no number that v lacks
abbrev pub Under : View → View → Type 0
Under v w = (n : ℕ) → seat_of w ≡ some n → seat_of v ≡ some n

pub apart_set : (vs : List View) (me : ℕ) (v w : View) → get_elem? vs me ≡ some v → Under v w → Apart vs → Apart (set vs me w)
apart_set vs me v w at under apart = λ i j n a b p q s t.
    each_set (λ i a. seat_of a ≡ some n → i ≡ j) vs me w
    (λ s. each_set (λ j b. seat_of b ≡ some n → me ≡ j) vs me w (λ _. refl) (λ j b _ q t. apart me j n v b at q (under n s) t) j b q t)
    (λ i a _ p s. each_set (λ j b. seat_of b ≡ some n → i ≡ j) vs me w (λ t. apart i me n a v p at s (under n t)) (λ j b _ q t. apart i j n a b p q s t) j b q t)
    i a p s

pub gone_set : (vs : List View) (me : ℕ) (v w : View) (n : ℕ) → get_elem? vs me ≡ some v → Under v w → IsGone vs n → IsGone (set vs me w) n
gone_set vs me v w n at under gone = each_set (λ j b. seat_of b ≢ some n) vs me w (λ s. gone me v at (under n s)) (λ j b _ q. gone j b q)

pub apart_snoc : (vs : List View) (w : View) → Apart vs → ((n : ℕ) → seat_of w ≡ some n → IsGone vs n) → Apart (vs ++ w ∷ [])
apart_snoc vs w apart new = λ i j n a b p q s t.
    each_snoc (λ i a. seat_of a ≡ some n → i ≡ j) vs w
    (λ s. each_snoc (λ j b. seat_of b ≡ some n → length vs ≡ j) vs w (λ _. refl) (λ j b q t. absurd (new n s j b q t)) j b q t)
    (λ i a p s. each_snoc (λ j b. seat_of b ≡ some n → i ≡ j) vs w (λ t. absurd (new n t i a p s)) (λ j b q t. apart i j n a b p q s t) j b q t)
    i a p s

pub gone_snoc : (vs : List View) (w : View) (n : ℕ) → seat_of w ≢ some n → IsGone vs n → IsGone (vs ++ w ∷ []) n
gone_snoc vs w n new gone = each_snoc (λ j b. seat_of b ≢ some n) vs w new gone

-- ---- sums over the views: what they weigh, and the parts that they cut
pub total_set : (f : View → ℕ) (vs : List View) (me : ℕ) (v w : View) → get_elem? vs me ≡ some v → total f (set vs me w) + f v ≡ total f vs + f w
total_set f [] me v w at = absurd (some-ne-none v (sym at))
total_set f (x ∷ xs) zero v w at = let same = ap f (some-injective x v at) in omega arith
total_set f (x ∷ xs) (suc me) v w at = let rest = total_set f xs me v w at in omega arith

pub total_snoc : (f : View → ℕ) (vs : List View) (w : View) → total f (vs ++ w ∷ []) ≡ total f vs + f w
total_snoc f [] w = omega arith
total_snoc f (x ∷ xs) w = let rest = total_snoc f xs w in omega arith

pub weights_one : (vs : List View) (i : ℕ) (v : View) → get_elem? vs i ≡ some v → weight v ≤ total weight vs
weights_one [] i v at = absurd (some-ne-none v (sym at))
weights_one (x ∷ xs) zero v at = let same = ap weight (some-injective x v at) in omega arith
weights_one (x ∷ xs) (suc i) v at = let rest = weights_one xs i v at in omega arith

module _ (weigh : Cut → ℕ) where
  -- a view that stands for no pass has no parts
  light : (v : View) → weight v ≡ 0 → parts_in weigh v ≡ 0
  light (Opener t n) e = refl
  light (Outside k) e = absurd (omega (arith, e))
  light (Holder k) e = absurd (omega (arith, e))
  light (Closer t []) e = refl
  light (Closer t (k ∷ ks)) e = absurd (omega (arith, e))
  light Spent e = refl

  all_light : (vs : List View) → total weight vs ≡ 0 → total (parts_in weigh) vs ≡ 0
  all_light [] e = refl
  all_light (v ∷ vs) e = let here = light v (omega (arith, e)) in let rest = all_light vs (omega (arith, e)) in omega arith

  -- a view that stands for all passes has all parts
  pub parts_one : (vs : List View) (i : ℕ) (v : View) → get_elem? vs i ≡ some v → total weight vs ≤ weight v → total (parts_in weigh) vs ≡ parts_in weigh v
  parts_one [] i v at most = absurd (some-ne-none v (sym at))
  parts_one (x ∷ xs) zero v at most =
      let same = ap weight (some-injective x v at) in
      let own = ap (parts_in weigh) (some-injective x v at) in
      let rest = all_light xs (omega arith) in
      omega arith
  parts_one (x ∷ xs) (suc i) v at most =
      let under = weights_one xs i v at in
      let here = light x (omega arith) in
      let rest = parts_one xs i v at (omega arith) in
      omega arith

pub weights_two : (vs : List View) (i j : ℕ) (v w : View) → i ≢ j → get_elem? vs i ≡ some v → get_elem? vs j ≡ some w → weight v + weight w ≤ total weight vs
weights_two [] i j v w ne p q = absurd (some-ne-none v (sym p))
weights_two (x ∷ xs) zero zero v w ne p q = absurd (ne refl)
weights_two (x ∷ xs) zero (suc j) v w ne p q = let same = ap weight (some-injective x v p) in let rest = weights_one xs j w q in omega arith
weights_two (x ∷ xs) (suc i) zero v w ne p q = let same = ap weight (some-injective x w q) in let rest = weights_one xs i v p in omega arith
weights_two (x ∷ xs) (suc i) (suc j) v w ne p q = let rest = weights_two xs i j v w (λ e. ne (ap suc e)) p q in omega arith
