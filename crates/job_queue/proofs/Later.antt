-- What is left of a feeder's jobs was stored after those that were taken.
use Rattle.std.proofs.Common.{◌≡◌, ℕ, ◌+◌, ◌<◌, ◌≤◌, ◌==◌, List, [], ◌∷◌, ◌++◌, length, true, All, Contains, refl, sym, ◌∙◌, subst, arith, eq-eqb}
use Rattle.std.specs.List.{filter, AllByRecursion}
use Rattle.std.proofs.lemmas.List.Elements.{All-contains, All-from_recursion, filter-append}
use Rattle.job_queue.specs.declared.view.Fed.{Fed}
use Rattle.job_queue.specs.Jobs.{fed_from, own, given, HavePlaces, Moment}
use Rattle.job_queue.specs.Seen.{OfFeeder, OfTaker, HasStored, HasTaken, Meet}
use Rattle.job_queue.proofs.Jobs.{each_given, each_passing, each_tested, each_weaker, given_each}

module _ {J : Type 0} where
  fed_places : (n p : ℕ) (jobs : List J) → HavePlaces p (fed_from n p jobs)
  fed_places n p [] = tt
  fed_places n p (job ∷ jobs) = (refl, fed_places n (p + 1) jobs)

  -- the first of them have the places below their number, and the others those from there on
  first_below : (p n : ℕ) (xs ys : List (Fed J)) → p + length xs ≤ n → HavePlaces p (xs ++ ys) → AllByRecursion (λ (x : Fed J). x.place < n) xs
  first_below p n [] ys low h = tt
  first_below p n (x ∷ xs) ys low h = ((let e = h.0 in omega arith), first_below (p + 1) n xs ys (omega arith) h.1)

  others_from : (p n : ℕ) (ys : List (Fed J)) → n ≤ p → HavePlaces p ys → AllByRecursion (λ (y : Fed J). n ≤ y.place) ys
  others_from p n [] low h = tt
  others_from p n (y ∷ ys) low h = ((let e = h.0 in omega arith), others_from (p + 1) n ys (omega arith) h.1)

  behind : (p : ℕ) (xs ys : List (Fed J)) → HavePlaces p (xs ++ ys) → HavePlaces (p + length xs) ys
  behind p [] ys h = subst (λ n. HavePlaces n ys) (omega arith) h
  behind p (x ∷ xs) ys h = subst (λ n. HavePlaces n ys) (omega arith) (behind (p + 1) xs ys h.1)

  -- those of the feeder among these
  of_feeder : (Q : Fed J → Type 0) (n : ℕ) (xs : List (Fed J)) → AllByRecursion Q (own n xs) → AllByRecursion (λ (x : Fed J). x.feeder ≡ n → Q x) xs
  of_feeder Q n xs h =
      each_weaker (λ (x : Fed J). (x.feeder == n) ≡ true → Q x) (λ (x : Fed J). x.feeder ≡ n → Q x) (λ x f e. f (eq-eqb x.feeder n e)) xs
      (each_tested Q (λ (x : Fed J). x.feeder == n) xs h)

  module _ (f : OfFeeder J) (m : Moment J) (stored : HasStored m f) where
    abbrev popped : ℕ
    popped = length (own f.number (given m.pops))

    split : HavePlaces 0 (own f.number (given m.pops) ++ own f.number m.held)
    split = subst (HavePlaces 0) (stored ∙ filter-append (λ (x : Fed J). x.feeder == f.number) (given m.pops) m.held) (fed_places f.number 0 f.stored)

    taken_below : (t : OfTaker J) → HasTaken m t → AllByRecursion (λ (x : Fed J). x.feeder ≡ f.number → x.place < popped) t.taken
    taken_below t taken =
        let Q : Fed J → Type 0 = λ x. x.feeder ≡ f.number → x.place < popped in
        let all = of_feeder (λ (x : Fed J). x.place < popped) f.number (given m.pops) (first_below 0 popped (own f.number (given m.pops)) (own f.number m.held) (omega arith) split) in
        subst (AllByRecursion Q) (sym taken)
        (given_each Q (filter (λ (p : ℕ × Fed J). p.0 == t.number) m.pops) (each_passing (λ (p : ℕ × Fed J). Q p.1) (λ (p : ℕ × Fed J). p.0 == t.number) m.pops (each_given Q m.pops all)))

    left_from : AllByRecursion (λ (y : Fed J). y.feeder ≡ f.number → popped ≤ y.place) m.held
    left_from =
        of_feeder (λ (y : Fed J). popped ≤ y.place) f.number m.held
        (others_from (0 + popped) popped (own f.number m.held) (omega arith) (behind 0 (own f.number (given m.pops)) (own f.number m.held) split))

  pub left_later : (fs : List (OfFeeder J)) (ts : List (OfTaker J)) (left : List (Fed J)) (f : OfFeeder J) (t : OfTaker J) → Contains fs f → Contains ts t → Meet fs ts left
      → All (λ (x : Fed J). x.feeder ≡ f.number → All (λ (y : Fed J). y.feeder ≡ f.number → x.place < y.place) left) t.taken
  left_later fs ts left f t own_f own_t meets =
      let m = meets.0 in
      let stored = All-contains (HasStored m) fs f meets.2 own_f in
      let taken = All-contains (HasTaken m) ts t meets.3 own_t in
      let from : AllByRecursion (λ (y : Fed J). y.feeder ≡ f.number → popped f m stored ≤ y.place) left = subst (AllByRecursion (λ (y : Fed J). y.feeder ≡ f.number → popped f m stored ≤ y.place)) meets.1 (left_from f m stored) in
      All-from_recursion (λ (x : Fed J). x.feeder ≡ f.number → All (λ (y : Fed J). y.feeder ≡ f.number → x.place < y.place) left) t.taken
      (each_weaker (λ (x : Fed J). x.feeder ≡ f.number → x.place < popped f m stored) (λ (x : Fed J). x.feeder ≡ f.number → All (λ (y : Fed J). y.feeder ≡ f.number → x.place < y.place) left)
      (λ x low own. All-from_recursion (λ (y : Fed J). y.feeder ≡ f.number → x.place < y.place) left
      (each_weaker (λ (y : Fed J). y.feeder ≡ f.number → popped f m stored ≤ y.place) (λ (y : Fed J). y.feeder ≡ f.number → x.place < y.place) (λ y high mine. let a = low own in let b = high mine in omega arith) left from))
      t.taken (taken_below f m stored t taken))
