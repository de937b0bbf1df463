-- Passes and placed workers that are taken in one by one, from the last on, and what their history then says.
use Rattle.std.proofs.Common.{◌≡◌, ℕ, suc, cond, is_some, ◌+◌, ◌<◌, ◌==◌, List, [], ◌∷◌, ◌++◌, length, refl, ap, sym, ◌∙◌, subst, arith, append_assoc, All, Option, Some, None}
use mathlib.Core.Option.{some}
use lib.ListN.{get_elem?}
use Rattle.std.specs.List.{AllByRecursion, sum_by, count_by}
use Rattle.std.proofs.lemmas.List.Sums.{sum_by-cons}
use Rattle.std.proofs.lemmas.List.Elements.{All-from_recursion, recursion_from_All}
use Rattle.atomic_table.specs.Table.{Me}
use Rattle.market_types.specs.State.{State}
use Rattle.market_types.specs.Step.{place_of}
use Rattle.market_types.specs.Allotment.{active, is_just}
use Rattle.edit_history.specs.Places.{placed}
use Rattle.market_lock.specs.Workers.{own_place}
use Rattle.edit_history.specs.Chronicled.{Chronicled}
use Rattle.market_lock.specs.declared.view.Known.{Known}
use Rattle.edit_history.specs.declared.terms.Terms.{Terms}
use Rattle.market_lock.specs.declared.view.View.{View}
use Rattle.market_lock.specs.declared.view.View.TheVariants.{Closer}
use Rattle.market_lock.specs.Rule.{Once}
use Rattle.market_lock.specs.Seen.{OfPass, OfPlaced}
use Rattle.market_lock.specs.Held.{known_for, taken_in, whos, IsClosing, kept_of}
use Rattle.market_lock.proofs.Counting.{added, added_same, added_append, all_seats, seats_weighed}

abbrev M : Type 0
M = Me Chronicled View

taken_last : (xs : List OfPass) (x : OfPass) → taken_in (xs ++ x ∷ []) ≡ known_for x ∷ taken_in xs
taken_last [] x = refl
taken_last (y ∷ ys) x = ap (λ l. l ++ known_for y ∷ []) (taken_last ys x)

pub whos_last : (xs : List OfPlaced) (x : OfPlaced) → whos (xs ++ x ∷ []) ≡ whos xs ++ x.who ∷ []
whos_last [] x = refl
whos_last (y ∷ ys) x = ap (λ l. y.who ∷ l) (whos_last ys x)

-- one more is taken back
pub record TakesIn (key : Terms) (all : List Known) (new : M) (zs : List OfPass) : Type 0 where
  pub closing : IsClosing key new (kept_of new.0)
  pub kept : kept_of new.0 ++ taken_in zs ≡ all

pub takes_in : (key : Terms) (all : List Known) (old new : M) (ys zs : List OfPass) (x : OfPass)
    → IsClosing key new (kept_of old.0 ++ known_for x ∷ []) → ys ≡ zs ++ x ∷ [] → kept_of old.0 ++ taken_in ys ≡ all → TakesIn key all new zs
takes_in key all old new ys zs x now is sum =
    let after : kept_of new.0 ≡ kept_of old.0 ++ known_for x ∷ [] = ap (λ (m : M). kept_of m.0) now in
    record {
      closing = now ∙ ap (λ (l : List Known). (Closer key l, [])) (sym after);
      kept = ap (λ l. l ++ taken_in zs) after ∙ (append_assoc (kept_of old.0) (known_for x ∷ []) (taken_in zs) ∙ (ap (λ l. kept_of old.0 ++ l) (sym (ap taken_in is ∙ taken_last zs x)) ∙ sum));
    }

-- ---- facts about each
every_of : (P : Known → Type 0) (xs : List Known) → ((i : ℕ) (k : Known) → get_elem? xs i ≡ some k → P k) → AllByRecursion P xs
every_of P [] h = tt
every_of P (x ∷ xs) h = (h 0 x refl, every_of P xs (λ i k e. h (suc i) k e))

every_left : (P : Known → Type 0) (xs ys : List Known) → AllByRecursion P (xs ++ ys) → AllByRecursion P xs
every_left P [] ys h = tt
every_left P (x ∷ xs) ys h = (h.0, every_left P xs ys h.1)

every_right : (P : Known → Type 0) (xs ys : List Known) → AllByRecursion P (xs ++ ys) → AllByRecursion P ys
every_right P [] ys h = h
every_right P (x ∷ xs) ys h = every_right P xs ys h.1

every_taken : (P : Known → Type 0) (xs : List OfPass) → AllByRecursion P (taken_in xs) → AllByRecursion (λ (p : OfPass). P (known_for p)) xs
every_taken P [] h = tt
every_taken P (x ∷ xs) h = ((every_right P (taken_in xs) (known_for x ∷ []) h).0, every_taken P xs (every_left P (taken_in xs) (known_for x ∷ []) h))

pub all_taken : (P : Known → Type 0) (kept : List Known) (ps qs : List OfPass) → kept ≡ taken_in ps ++ taken_in qs → ((i : ℕ) (k : Known) → get_elem? kept i ≡ some k → P k)
    → All (λ (p : OfPass). P (known_for p)) ps × All (λ (p : OfPass). P (known_for p)) qs
all_taken P kept ps qs is h =
    let every : AllByRecursion P (taken_in ps ++ taken_in qs) = subst (AllByRecursion P) is (every_of P kept h) in (
      All-from_recursion (λ (p : OfPass). P (known_for p)) ps (every_taken P ps (every_left P (taken_in ps) (taken_in qs) every)),
      All-from_recursion (λ (p : OfPass). P (known_for p)) qs (every_taken P qs (every_right P (taken_in ps) (taken_in qs) every)),
    )

every_who : (P : OfPass → Type 0) (qs : List OfPlaced) → AllByRecursion P (whos qs) → AllByRecursion (λ (q : OfPlaced). P q.who) qs
every_who P [] h = tt
every_who P (q ∷ qs) h = (h.0, every_who P qs h.1)

pub all_who : (P : OfPass → Type 0) (qs : List OfPlaced) → All P (whos qs) → All (λ (q : OfPlaced). P q.who) qs
all_who P qs h = All-from_recursion (λ (q : OfPlaced). P q.who) qs (every_who P qs (recursion_from_All P (whos qs) h))

-- ---- sums over all that were taken back

pub added_taken : (f : Known → ℕ) (xs : List OfPass) → added f (taken_in xs) ≡ sum_by (λ (p : OfPass). f (known_for p)) xs
added_taken f [] = refl
added_taken f (x ∷ xs) = omega (arith, added_taken f xs, added_append f (taken_in xs) (known_for x ∷ []), sum_by-cons (λ (p : OfPass). f (known_for p)) x xs)

added_whos : (f : OfPass → ℕ) (qs : List OfPlaced) → sum_by f (whos qs) ≡ sum_by (λ (q : OfPlaced). f q.who) qs
added_whos f [] = refl
added_whos f (q ∷ qs) = omega (arith, added_whos f qs, sum_by-cons f q.who (whos qs), sum_by-cons (λ (p : OfPlaced). f p.who) q qs)

pub added_all : (f : Known → ℕ) (kept : List Known) (ps : List OfPass) (qs : List OfPlaced) → kept ≡ taken_in ps ++ taken_in (whos qs)
    → added f kept ≡ sum_by (λ (p : OfPass). f (known_for p)) ps + sum_by (λ (q : OfPlaced). f (known_for q.who)) qs
added_all f kept ps qs is =
    omega (arith, ap (added f) is, added_append f (taken_in ps) (taken_in (whos qs)), added_taken f ps, added_taken f (whos qs), added_whos (λ (p : OfPass). f (known_for p)) qs)

-- ---- how many are placed

module _ (w : Option ℕ → ℕ) where
  sum_free : w None ≡ 0 → (ps : List OfPass) → AllByRecursion (λ (p : OfPass). own_place p.mine ≡ None) ps → sum_by (λ (p : OfPass). w (own_place p.mine)) ps ≡ 0
  sum_free nought [] h = refl
  sum_free nought (p ∷ ps) h = omega (arith, sum_free nought ps h.1, sum_by-cons (λ (x : OfPass). w (own_place x.mine)) p ps, ap w h.0, nought)

  sum_there : (qs : List OfPlaced) → AllByRecursion (λ (q : OfPlaced). own_place q.who.mine ≡ Some q.arena) qs
      → sum_by (λ (q : OfPlaced). w (own_place q.who.mine)) qs ≡ sum_by (λ (q : OfPlaced). w (Some q.arena)) qs
  sum_there [] h = refl
  sum_there (q ∷ qs) h =
      omega (arith, sum_there qs h.1, sum_by-cons (λ (x : OfPlaced). w (own_place x.who.mine)) q qs, sum_by-cons (λ (x : OfPlaced). w (Some x.arena)) q qs, ap w h.0)

-- 1 for a seat that is placed, and for one that is placed there
abbrev one_if : Option ℕ → ℕ
one_if p = cond (is_some p) 1 0

abbrev one_at : ℕ → Option ℕ → ℕ
one_at a p = cond (is_just a p) 1 0

sum_ones : (qs : List OfPlaced) → sum_by (λ (q : OfPlaced). one_if (Some q.arena)) qs ≡ length qs
sum_ones [] = refl
sum_ones (q ∷ qs) = omega (arith, sum_ones qs, sum_by-cons (λ (p : OfPlaced). one_if (Some p.arena)) q qs)

-- in a market whose seats are where their own entries say
module _ (market : State) (kept : List Known) (ps : List OfPass) (qs : List OfPlaced) (is : kept ≡ taken_in ps ++ taken_in (whos qs)) (once : Once kept) (long : length kept ≡ length market.seats)
    (fits : (i : ℕ) (k : Known) → get_elem? kept i ≡ some k → (k.seat < length market.seats) × (place_of market k.seat ≡ own_place k.mine))
    (none' : All (λ (p : OfPass). own_place p.mine ≡ None) ps) (some' : All (λ (q : OfPlaced). own_place q.who.mine ≡ Some q.arena) qs) where
  all_weighed : (w : Option ℕ → ℕ) → w None ≡ 0 → sum_by w market.seats ≡ sum_by (λ (q : OfPlaced). w (Some q.arena)) qs
  all_weighed w nought =
      let seats = seats_weighed w market.seats in
      let all = all_seats (λ s. w (place_of market s)) kept (length market.seats) (λ i k e. (fits i k e).0) once long in
      let own = added_same (λ k. w (place_of market k.seat)) (λ k. w (own_place k.mine)) kept (λ i k e. ap w (fits i k e).1) in
      let taken = added_all (λ k. w (own_place k.mine)) kept ps qs is in
      let free = sum_free w nought ps (recursion_from_All (λ (p : OfPass). own_place p.mine ≡ None) ps none') in
      let there = sum_there w qs (recursion_from_All (λ (q : OfPlaced). own_place q.who.mine ≡ Some q.arena) qs some') in
      omega (arith, seats, all, own, taken, free, there)

  -- as many are placed as placed values are taken back
  pub placed_is : placed market ≡ length qs
  placed_is = all_weighed one_if refl ∙ sum_ones qs

  -- and each arena has as many workers as there are of it
  pub active_is : (a : ℕ) → active market a ≡ count_by (λ (q : OfPlaced). q.arena == a) qs
  active_is a = all_weighed (one_at a) refl
