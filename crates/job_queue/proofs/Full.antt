-- What is known of a moment at which a queue was full.
use Rattle.std.proofs.Common.{◌≡◌, ℕ, ◌<◌, ◌≤◌, List, [], ◌∷◌, length, length-append, refl, ap, sym, ◌∙◌, subst, arith}
use Rattle.std.specs.List.{AllByRecursion}
use Rattle.std.proofs.lemmas.List.Elements.{recursion_from_All}
use Rattle.job_queue.specs.declared.view.Fed.{Fed}
use Rattle.job_queue.specs.Jobs.{fed_from, own, given, pushed, Moment, IsMomentOf}
use Rattle.job_queue.specs.Seen.{QueueId, OfQueue, OfFeeder, WasFull}
use Rattle.job_queue.proofs.Jobs.{each_weaker, own_first, length-fed_from}

module _ {J : Type 0} where
  own_all : (n : ℕ) (xs : List (Fed J)) → AllByRecursion (λ (x : Fed J). x.feeder ≡ n) xs → own n xs ≡ xs
  own_all n [] h = refl
  own_all n (x ∷ xs) h = own_first n x xs h.0 ∙ ap (λ l. x ∷ l) (own_all n xs h.1)

  -- where there is one feeder, all that was pushed is its own
  pub only_fills : (q : OfQueue) (f : OfFeeder J) → f.queue.feeders ≡ 1 → f.number < f.queue.feeders → WasFull q f → q.capacity ≤ length f.stored
  only_fills q f one below full =
      let m = full.0 in
      let none : f.number ≡ 0 = omega arith in
      let mine : AllByRecursion (λ (x : Fed J). x.feeder ≡ f.number) (pushed m) =
      each_weaker (λ (x : Fed J). x.feeder < f.queue.feeders) (λ (x : Fed J). x.feeder ≡ f.number) (λ x lt. omega arith) (pushed m)
      (recursion_from_All (λ (x : Fed J). x.feeder < f.queue.feeders) (pushed m) full.3.pushes) in
      let all : length f.stored ≡ length (pushed m) = sym (length-fed_from f.number 0 f.stored) ∙ (ap length full.2 ∙ ap length (own_all f.number (pushed m) mine)) in
      let parts = length-append (given m.pops) m.held in
      let held = full.1 in
      omega arith
