use Rattle.std.proofs.Common.{◌≡◌, ◌≢◌, zero, suc, List, [], ◌∷◌, length, get_or, AllPairs, sym, ap, ◌∙◌, subst, arith}
use Rattle.std.specs.List.{AllZip}
use Rattle.std.proofs.lemmas.List.Elements.{All-cons, All-nil, length_all_zip}
use Rattle.job_queue.specs.Seen.{OfTaker, OfFeeder, AreAllOf}
use Rattle.plan_jobs.specs.declared.task.Job.{Job}
use Rattle.worker_main.specs.declared.station.Station.{Station}
use Rattle.worker_main.specs.Stations.{IsTakerOf, HaveOwnArenas}
use Rattle.worker_main.specs.Books.{IsTakerAfter}
use Rattle.thread_tests.proofs.driving.workers.worked.Goals as goal

two_apart : (s t : Station) → s.arena ≢ t.arena → AllPairs HaveOwnArenas (s ∷ t ∷ [])
two_apart s t ne zero zero d lt below = absurd (omega (arith, lt))
two_apart s t ne zero (suc zero) d lt below = ne
two_apart s t ne zero (suc (suc j)) d lt below = absurd (omega (arith, below))
two_apart s t ne (suc i) j d lt below = absurd (omega (arith, lt, below))

first_same : {A : Type 0} (a b c d : A) (xs : List A) → xs ≡ a ∷ b ∷ [] → xs ≡ c ∷ d ∷ [] → c ≡ a
first_same a b c d xs e f = ap (λ l. get_or l 0 a) (sym f ∙ e)

second_same : {A : Type 0} (a b c d : A) (xs : List A) → xs ≡ a ∷ b ∷ [] → xs ≡ c ∷ d ∷ [] → d ≡ b
second_same a b c d xs e f = ap (λ l. get_or l 1 b) (sym f ∙ e)

-- a fact of two lists, at lists that are these
zip_as : {A B : Type 0} (R : A → B → Type 0) (xs zs : List A) (ys ws : List B) → xs ≡ zs → ys ≡ ws → AllZip R zs ws → AllZip R xs ys
zip_as R xs zs ys ws e f h = subst (λ l. AllZip R l ys) (sym e) (subst (AllZip R zs) (sym f) h)

taker_of : (s : Station) (fs : List (OfFeeder Job)) (p : OfTaker Job) → AreAllOf s.queue.id fs (p ∷ []) → p.queue ≡ s.queue.id
taker_of s fs p h = h.3 0 p (omega arith)

settles : (s t : Station) (fs : List (OfFeeder Job)) (p q : OfTaker Job) → t ≡ s → q.queue ≡ p.queue → AreAllOf s.queue.id fs (p ∷ []) → AreAllOf t.queue.id fs (q ∷ [])
settles s t fs p q e same h =
    let P : OfTaker Job → Type 0 = λ x. x.queue ≡ s.queue.id in
    subst (λ (x : Station). AreAllOf x.queue.id fs (q ∷ [])) (sym e) (h.0, h.1, h.2, All-cons P q [] (same ∙ taker_of s fs p h) (All-nil P))

pub work-pass-requires-clause-takers : goal.work-pass-requires-clause-takers
work-pass-requires-clause-takers g c =
    let one = c.args.first in
    let two = c.args.second in
    zip_as IsTakerOf _ _ _ _ (c.as_slice.ensures.value ∙ c.pair-stations.ensures) c.pair-takers.ensures
    (taker_of one.station one.feeders.items one.taker c.requires.first, (taker_of two.station two.feeders.items two.taker c.requires.second, tt))

pub work-pass-requires-clause-arenas : goal.work-pass-requires-clause-arenas
work-pass-requires-clause-arenas g c =
    subst (AllPairs HaveOwnArenas) (sym (c.as_slice.ensures.value ∙ c.pair-stations.ensures)) (two_apart c.args.first.station c.args.second.station c.requires.arenas)

pub unpair-one-requires : goal.unpair-one-requires
unpair-one-requires g c = ap length c.pair-stations.ensures

pub unpair-taker_one-requires : goal.unpair-taker_one-requires
unpair-taker_one-requires g c = sym (length_all_zip IsTakerAfter _ _ c.work-pass.ensures.takers) ∙ ap length c.pair-takers.ensures

pub settled-left_one-requires : goal.settled-left_one-requires
settled-left_one-requires g c =
    let one = c.args.first in
    let after = zip_as IsTakerAfter _ _ _ _ (sym c.pair-takers.ensures) (sym c.unpair-taker_one.ensures) c.work-pass.ensures.takers in
    record {
      all = settles one.station c.unpair-one.result.0 one.feeders.items one.taker c.unpair-taker_one.result.0
          (first_same one.station c.args.second.station c.unpair-one.result.0 c.unpair-one.result.1 c.pair-stations.result.items c.pair-stations.ensures c.unpair-one.ensures) after.0.0 c.requires.first;
    }

pub settled-left_two-requires : goal.settled-left_two-requires
settled-left_two-requires g c =
    let two = c.args.second in
    let after = zip_as IsTakerAfter _ _ _ _ (sym c.pair-takers.ensures) (sym c.unpair-taker_one.ensures) c.work-pass.ensures.takers in
    record {
      all = settles two.station c.unpair-one.result.1 two.feeders.items two.taker c.unpair-taker_one.result.1
          (second_same c.args.first.station two.station c.unpair-one.result.0 c.unpair-one.result.1 c.pair-stations.result.items c.pair-stations.ensures c.unpair-one.ensures) after.1.0.0 c.requires.second;
    }
