-- What the last pop tells of all feeders and all takers.
use Rattle.std.proofs.Common.{◌≡◌, ℕ, ◌<◌, ◌≤◌, ◌==◌, ◌≢◌, List, [], ◌∷◌, map, false, refl, sym, ◌∙◌, subst, arith, ne_eqb, All}
use Rattle.std.specs.List.{filter, flat_map, AllByRecursion, IsDistinct}
use Rattle.std.specs.Bool.{nat_eq}
use Rattle.std.specs.List.Sorted.{IsPermutation}
use Rattle.std.proofs.lemmas.List.Folds.{flat_map-map}
use Rattle.std.proofs.lemmas.List.Elements.{All-from_recursion, recursion_from_All}
use Rattle.std.proofs.lemmas.List.Sorted.{IsPermutation-sym, IsPermutation-trans, IsPermutation-append_left, IsPermutation-map}
use Rattle.job_queue.specs.declared.view.Fed.{Fed}
use Rattle.job_queue.specs.declared.view.Known.{Known}
use Rattle.crossbeam_queue.specs.Fifo.{Pops, Learns}
use Rattle.job_queue.specs.declared.view.View.{View}
use Rattle.job_queue.specs.declared.view.View.TheVariants.{Records}
use Rattle.job_queue.specs.Views.{known_of, records_of}
use Rattle.job_queue.specs.Jobs.{fed_from, own, by, given, Moment, pushed}
use Rattle.job_queue.specs.Seen.{QueueId, OfFeeder, OfTaker, HasStored, HasTaken, all_stored, all_taken, AreAllOf, HaveOwnNumbers, Meet, AllTakenBut}
use Rattle.job_queue.specs.Records.{feeder_known, taker_known, all_known}
use Rattle.job_queue.specs.Rule.{times, HasNumber, Account, Kept, Settles, Closes, Rests}
use Rattle.job_queue.proofs.Jobs.{each_weaker, each_left, each_right}
use Rattle.job_queue.proofs.Count.{has_left, has_right}
use Rattle.job_queue.proofs.Views.{times-append, counts, differs}
use Rattle.job_queue.proofs.Gathered.{first_says, long}
use Rattle.job_queue.proofs.Steps.{ends_it}
use Rattle.job_queue.proofs.Parts.{parts, flat_map_same, map-flat_map}

each_of_map : {A B : Type 0} (P : B → Type 0) (f : A → B) (xs : List A) → AllByRecursion P (map f xs) → AllByRecursion (λ x. P (f x)) xs
each_of_map P f [] h = tt
each_of_map P f (x ∷ xs) h = (h.0, each_of_map P f xs h.1)

each_to_map : {A B : Type 0} (P : B → Type 0) (f : A → B) (xs : List A) → AllByRecursion (λ x. P (f x)) xs → AllByRecursion P (map f xs)
each_to_map P f [] h = tt
each_to_map P f (x ∷ xs) h = (h.0, each_to_map P f xs h.1)

All_both : {A : Type 0} (P Q R : A → Type 0) → ((x : A) → P x → Q x → R x) → (xs : List A) → All P xs → All Q xs → All R xs
All_both P Q R f xs a b k d lt = f _ (a k d lt) (b k d lt)

pub record Told {J : Type 0} (fs : List (OfFeeder J)) (ts : List (OfTaker J)) (items : List (Fed J)) : Type 0 where
  pub numbers : HaveOwnNumbers fs
  pub meets : Meet fs ts items
  pub taken_but : AllTakenBut fs ts items

module _ {J : Type 0} where
  apart : (f : OfFeeder J) (fs : List (OfFeeder J)) → times f.number (map feeder_known fs) ≡ 0 → AllByRecursion (λ (n : ℕ). nat_eq f.number n ≡ false) (map (λ (h : OfFeeder J). h.number) fs)
  apart f [] nil = tt
  apart f (h ∷ fs) nil = (ne_eqb f.number h.number (differs f.number (feeder_known h) (map feeder_known fs) nil), apart f fs (omega arith))

  distinct : (fs : List (OfFeeder J)) → ((n : ℕ) → times n (map feeder_known fs) ≤ 1) → HaveOwnNumbers fs
  unfolding IsDistinct
  distinct [] once = tt
  distinct (f ∷ fs) once =
      (apart f fs (let a = once f.number in let b = counts (feeder_known f) (map feeder_known fs) in omega arith), distinct fs (λ n. let a = once n in omega arith))

  -- a list of all feeders and takers, whose numbers don't mix
  module _ (bound : ℕ) (fs : List (OfFeeder J)) (ts : List (OfTaker J)) (below : All (λ (f : OfFeeder J). f.number < bound) fs) (above : All (λ (t : OfTaker J). bound ≤ t.number) ts)
      (out : List (ℕ × Fed J)) (items : List (Fed J)) (s : Settles bound (all_known fs ts) out items) where
    abbrev mine : List (Known J)
    mine = map feeder_known fs

    abbrev theirs : List (Known J)
    theirs = map taker_known ts

    abbrev moment : Moment J
    moment = record { pops = out; held = items }

    low : AllByRecursion (λ (k : Known J). k.number < bound) mine
    low = each_to_map (λ (k : Known J). k.number < bound) feeder_known fs (recursion_from_All (λ (f : OfFeeder J). f.number < bound) fs below)

    high : AllByRecursion (λ (k : Known J). bound ≤ k.number) theirs
    high = each_to_map (λ (k : Known J). bound ≤ k.number) taker_known ts (recursion_from_All (λ (t : OfTaker J). bound ≤ t.number) ts above)

    of_feeder : (x : Fed J) → (x.feeder < bound) × HasNumber x.feeder (all_known fs ts) → HasNumber x.feeder mine
    of_feeder x h = has_right x.feeder theirs mine (each_weaker (λ (k : Known J). bound ≤ k.number) (λ (k : Known J). k.number ≢ x.feeder) (λ k le e. let lt = h.0 in omega arith) theirs high) h.1

    of_taker : (p : ℕ × Fed J) → (bound ≤ p.0) × HasNumber p.0 (all_known fs ts) → HasNumber p.0 theirs
    of_taker p h = has_left p.0 theirs mine (each_weaker (λ (k : Known J). k.number < bound) (λ (k : Known J). k.number ≢ p.0) (λ k lt e. let le = h.0 in omega arith) mine low) h.1

    once_feeders : (n : ℕ) → times n mine ≤ 1
    once_feeders n = let a = s.once n in let b = times-append n theirs mine in omega arith

    once_takers : (n : ℕ) → times n theirs ≤ 1
    once_takers n = let a = s.once n in let b = times-append n theirs mine in omega arith

    fed_each : AllByRecursion (λ (f : OfFeeder J). Account out items (feeder_known f)) fs
    fed_each = each_of_map (Account out items) feeder_known fs (each_right (Account out items) theirs mine s.each)

    took_each : AllByRecursion (λ (t : OfTaker J). Account out items (taker_known t)) ts
    took_each = each_of_map (Account out items) taker_known ts (each_left (Account out items) theirs mine s.each)

    numbers : HaveOwnNumbers fs
    numbers = distinct fs once_feeders

    meets : Meet fs ts items
    meets = (
      moment,
      refl,
      All-from_recursion (HasStored moment) fs (each_weaker (λ (f : OfFeeder J). Account out items (feeder_known f)) (HasStored moment) (λ f h. h.0) fs fed_each),
      All-from_recursion (HasTaken moment) ts (each_weaker (λ (t : OfTaker J). Account out items (taker_known t)) (HasTaken moment) (λ t h. h.1) ts took_each),
    )

    stored_parts : IsPermutation (pushed moment) (all_stored fs)
    stored_parts =
        let covered = each_weaker (λ (x : Fed J). (x.feeder < bound) × HasNumber x.feeder (all_known fs ts)) (λ (x : Fed J). HasNumber x.feeder mine) of_feeder (pushed moment) s.fed in
        let of : Known J → List (Fed J) = λ k. own k.number (pushed moment) in
        let same : flat_map of mine ≡ all_stored fs = flat_map-map of feeder_known fs
        ∙ flat_map_same (λ (f : OfFeeder J). own f.number (pushed moment)) (λ (f : OfFeeder J). fed_from f.number 0 f.stored) fs
        (each_weaker (λ (f : OfFeeder J). Account out items (feeder_known f)) (λ (f : OfFeeder J). own f.number (pushed moment) ≡ fed_from f.number 0 f.stored) (λ f h. sym h.0) fs fed_each) in
        subst (IsPermutation (pushed moment)) same (parts (λ (x : Fed J). x.feeder) mine once_feeders (pushed moment) covered)

    taken_parts : IsPermutation (given out) (all_taken ts)
    taken_parts =
        let covered = each_weaker (λ (p : ℕ × Fed J). (bound ≤ p.0) × HasNumber p.0 (all_known fs ts)) (λ (p : ℕ × Fed J). HasNumber p.0 theirs) of_taker out s.popped in
        let of : Known J → List (ℕ × Fed J) = λ k. filter (λ (p : ℕ × Fed J). p.0 == k.number) out in
        let same : given (flat_map of theirs) ≡ all_taken ts = map-flat_map (λ (p : ℕ × Fed J). p.1) of theirs
        ∙ (flat_map-map (λ (k : Known J). by k.number out) taker_known ts
        ∙ flat_map_same (λ (t : OfTaker J). by t.number out) (λ (t : OfTaker J). t.taken) ts
        (each_weaker (λ (t : OfTaker J). Account out items (taker_known t)) (λ (t : OfTaker J). by t.number out ≡ t.taken) (λ t h. sym h.1) ts took_each)) in
        subst (IsPermutation (given out)) same (IsPermutation-map (λ (p : ℕ × Fed J). p.1) out (flat_map of theirs) (parts (λ (p : ℕ × Fed J). p.0) theirs once_takers out covered))

    taken_but : AllTakenBut fs ts items
    taken_but = IsPermutation-trans _ _ _ (IsPermutation-sym _ _ stored_parts) (IsPermutation-append_left items (given out) (all_taken ts) taken_parts)

    told : Told fs ts items
    told = record { numbers = numbers; meets = meets; taken_but = taken_but }

  -- what a pass that stands for all learns
  pub tells : (id : QueueId) (fs : List (OfFeeder J)) (ts : List (OfTaker J)) (v : View J) (out : List (ℕ × Fed J)) (items : List (Fed J))
      → v ≡ Records (all_known fs ts) → AreAllOf id fs ts → 0 < id.takers → All (λ (f : OfFeeder J). f.number < f.queue.feeders) fs → All (λ (t : OfTaker J). t.queue.feeders ≤ t.number) ts
      → Settles (known_of v).feeders (records_of v) out items → Told fs ts items
  tells id fs ts v out items is all some below above s =
      let first = first_says id fs ts (omega (arith, all.1)) all.3 above in
      let here : Settles id.feeders (all_known fs ts) out items =
      subst (λ (n : ℕ). Settles n (all_known fs ts) out items) first.0 (subst (λ (w : View J). Settles (known_of w).feeders (records_of w) out items) is s) in
      told id.feeders fs ts
      (All_both (λ (f : OfFeeder J). f.queue ≡ id) (λ (f : OfFeeder J). f.number < f.queue.feeders) (λ (f : OfFeeder J). f.number < id.feeders) (λ f e lt. subst (λ (q : QueueId). f.number < q.feeders) e lt) fs all.2 below)
      (All_both (λ (t : OfTaker J). t.queue ≡ id) (λ (t : OfTaker J). t.queue.feeders ≤ t.number) (λ (t : OfTaker J). id.feeders ≤ t.number) (λ t e le. subst (λ (q : QueueId). q.feeders ≤ t.number) e le) ts all.3 above)
      out items here

  -- it may make the last pop
  pub may_end : (port : ℕ) (id : QueueId) (fs : List (OfFeeder J)) (ts : List (OfTaker J)) (v : View J)
      → v ≡ Records (all_known fs ts) → AreAllOf id fs ts → 0 < id.takers → All (λ (t : OfTaker J). t.queue.feeders ≤ t.number) ts
      → Pops Kept port v (Closes v) × Learns Kept port v (Rests v)
  may_end port id fs ts v is all some above =
      let first = first_says id fs ts (omega (arith, all.1)) all.3 above in
      let l : List (Known J) = all_known fs ts in
      subst (λ (w : View J). Pops Kept port w (Closes w) × Learns Kept port w (Rests w)) (sym is)
      (ends_it port l (omega (arith, long fs ts, all.1)) (omega (arith, long fs ts, all.0, all.1, first.0, first.1)) first.2)
