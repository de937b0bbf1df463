-- Lists that end with one element more; takers of the stations' queues.
use Rattle.std.proofs.Common.{◌≡◌, ◌≤◌, ◌<◌, ◌+◌, ℕ, refl, ap, sym, ◌∙◌, subst, arith, List, [], ◌∷◌, ◌++◌, length, map, All, get_or, Some, ⊎_elim}
use Rattle.std.specs.Prelude.{slice_get}
use Rattle.std.specs.List.{AllZip}
use Rattle.job_queue.specs.Seen.{QueueId, OfTaker}
use Rattle.plan_jobs.specs.declared.task.Job.{Job}
use Rattle.plan_jobs.specs.declared.task.PlannedJob.{PlannedJob}
use Rattle.worker_main.specs.declared.station.Station.{Station}
use Rattle.worker_main.specs.Stations.{IsTakerOf, HaveOwnArenas}
use Rattle.worker_main.specs.Books.{IsTakerAfter}
use Rattle.std.proofs.lemmas.List.{map-append, length-append, length-map, get_or-map, get_or_append_left, same_from_push}
use Rattle.std.proofs.lemmas.List.Elements.{All-map, All-push}
use Rattle.std.proofs.lemmas.List.Quantifiers.{all_pairs_push}
use Rattle.std.proofs.lemmas.Bool.{cases_lt}
use Rattle.std.proofs.lemmas.Grind.{common_steps}
use Rattle.std.proofs.lemmas.Option.{slice_get-map, slice_get_read}
use Rattle.market_drive.specs.Racks.{OfEnds, queues_of, unfed}
use Rattle.market_drive.specs.Lines.{queues_at, queues_ended, AreLines}
use Rattle.market_drive.specs.Arenas.{AreNumbered, HasRoomFor}

-- the queues are equal one by one
pub takers_of : (ss : List Station) (ts : List (OfTaker Job)) → queues_of ts ≡ queues_at ss → AllZip IsTakerOf ss ts
takers_of [] [] e = tt
takers_of [] (t ∷ ts) e = absurd (cc)
takers_of (s ∷ ss) [] e = absurd (cc)
takers_of (s ∷ ss) (t ∷ ts) e = (cc, takers_of ss ts (cc))

pub same_queues : (old new : List (OfTaker Job)) → AllZip IsTakerAfter old new → queues_of new ≡ queues_of old
same_queues [] [] z = refl
same_queues [] (t ∷ ts) z = absurd z
same_queues (s ∷ ss) [] z = absurd z
same_queues (s ∷ ss) (t ∷ ts) z = λ i. z.0.0 i ∷ same_queues ss ts z.1 i

-- ---- stations and ends, the last of each

pub paired_last : (all ss : List Station) (s : Station) (ends es : List OfEnds) (e : OfEnds) → all ≡ ss ++ s ∷ [] → ends ≡ es ++ e ∷ [] → queues_ended ends ≡ queues_at all → (queues_ended es ≡ queues_at ss) × (e.queue ≡ s.queue.id)
paired_last all ss s ends es e p q same =
    same_from_push (queues_ended es) (queues_at ss) e.queue s.queue.id
    (sym (map-append (λ (x : OfEnds). x.queue) es (e ∷ [])) ∙ (ap queues_ended (sym q) ∙ (same ∙ (ap queues_at p ∙ map-append (λ (x : Station). x.queue.id) ss (s ∷ [])))))

pub queues_last : (all ss : List Station) (s : Station) (ends es : List OfEnds) (e : OfEnds) → all ≡ ss ++ s ∷ [] → ends ≡ es ++ e ∷ [] → queues_ended ends ≡ queues_at all → queues_at all ≡ queues_at ss ++ e.queue ∷ []
queues_last all ss s ends es e p q same =
    let own = paired_last all ss s ends es e p q same in
    ap queues_at p ∙ (map-append (λ (x : Station). x.queue.id) ss (s ∷ []) ∙ (λ k. queues_at ss ++ sym own.1 k ∷ []))

pub paired_more : (ss : List Station) (s : Station) (es : List OfEnds) (e : OfEnds) → queues_ended es ≡ queues_at ss → e.queue ≡ s.queue.id → queues_ended (es ++ e ∷ []) ≡ queues_at (ss ++ s ∷ [])
paired_more ss s es e same own =
    map-append (λ (x : OfEnds). x.queue) es (e ∷ []) ∙ ((λ k. same k ++ own k ∷ []) ∙ sym (map-append (λ (x : Station). x.queue.id) ss (s ∷ [])))

-- the station of the next arena
pub lines_more : (ss : List Station) (s : Station) (es : List OfEnds) (e : OfEnds) → AreLines ss es → s.arena ≡ length ss + 1 → length ss < 64 → e.queue ≡ s.queue.id → AreLines (ss ++ s ∷ []) (es ++ e ∷ [])
lines_more ss s es e l next room own =
    let long : length (ss ++ s ∷ []) ≡ length ss + 1 = length-append ss (s ∷ []) in
    record {
      paired = paired_more ss s es e l.paired own;
      apart = all_pairs_push HaveOwnArenas ss s l.apart (λ k d h same. (let below = l.below k d h in omega arith));
      below = All-push (λ (x : Station). x.arena ≤ length (ss ++ s ∷ [])) ss s (λ k d h. (let below = l.below k d h in omega arith)) (omega arith);
      few = omega arith;
    }

pub long_more : {A : Type 0} (all xs : List A) (x : A) → all ≡ xs ++ x ∷ [] → length all ≡ length xs + 1
long_more all xs x e = ap length e ∙ length-append xs (x ∷ [])

pub queues_more : (all ss : List Station) (s : Station) (q : QueueId) → all ≡ ss ++ s ∷ [] → q ≡ s.queue.id → queues_at ss ++ q ∷ [] ≡ queues_at all
queues_more all ss s q e own = (λ k. queues_at ss ++ own k ∷ []) ∙ sym (ap queues_at e ∙ map-append (λ (x : Station). x.queue.id) ss (s ∷ []))

-- the numbers of the stations' arenas go on
pub numbered_more : (ss : List Station) (s : Station) → AreNumbered ss → s.arena ≡ length ss + 1 → AreNumbered (ss ++ s ∷ [])
numbered_more ss s all next k d low =
    let long : length (ss ++ s ∷ []) ≡ length ss + 1 = length-append ss (s ∷ []) in
    ⊎_elim
    (λ (old : k < length ss). rw (get_or_append_left ss (s ∷ []) d k old) (all k d old))
    (λ (last : length ss ≤ k). (let same : get_or (ss ++ s ∷ []) k d ≡ s = grind (arith, common_steps) in rw same (omega arith)))
    (cases_lt k (length ss))

-- the station of an arena, and the ends of its queue
pub place_is : (ss : List Station) (es : List OfEnds) (k arena : ℕ) (s : Station) (e : OfEnds) → queues_ended es ≡ queues_at ss → AreNumbered ss → k < length ss → k + 1 ≡ arena → s ≡ get_or ss k s → e ≡ get_or es k e
    → (slice_get ss k ≡ Some s) × (slice_get es k ≡ Some e) × (arena ≡ s.arena)
place_is ss es k arena s e same numbers low own here there =
    let long : length es ≡ length ss = sym (length-map es (λ (x : OfEnds). x.queue)) ∙ (ap length same ∙ length-map ss (λ (x : Station). x.queue.id)) in (
      slice_get_read ss (length ss) k s refl low here,
      slice_get_read es (length es) k e refl (omega arith) there,
      sym own ∙ sym (ap (λ (x : Station). x.arena) here ∙ numbers k s low),
    )

-- the ends and the station at one place are of one queue
pub own_queue : (ss : List Station) (es : List OfEnds) (k : ℕ) (s : Station) (e : OfEnds) → queues_ended es ≡ queues_at ss → k < length ss → s ≡ get_or ss k s → e ≡ get_or es k e → e.queue ≡ s.queue.id
own_queue ss es k s e same low here there =
    let long : length es ≡ length ss = sym (length-map es (λ (x : OfEnds). x.queue)) ∙ (ap length same ∙ length-map ss (λ (x : Station). x.queue.id)) in
    let within : k < length es = omega arith in
    let left : slice_get (queues_ended es) k ≡ Some e.queue = rw (slice_get-map (λ (x : OfEnds). x.queue) es k, slice_get_read es (length es) k e refl within there) in
    let right : slice_get (queues_at ss) k ≡ Some s.queue.id = rw (slice_get-map (λ (x : Station). x.queue.id) ss k, slice_get_read ss (length ss) k s refl low here) in
    let both : Some e.queue ≡ Some s.queue.id = sym left ∙ (ap (λ qs. slice_get qs k) same ∙ right) in
    cc

pub roomy_more : (jobs : List PlannedJob) (all ss : List Station) (s : Station) → all ≡ ss ++ s ∷ [] → All (HasRoomFor jobs) ss → HasRoomFor jobs s → All (HasRoomFor jobs) all
roomy_more jobs all ss s is old new = subst (All (HasRoomFor jobs)) (sym is) (All-push (HasRoomFor jobs) ss s old new)

-- ---- ends that differ in nothing but what their queues were fed with

ended_unfed : (es : List OfEnds) → queues_ended (map unfed es) ≡ queues_ended es
ended_unfed [] = refl
ended_unfed (e ∷ es) = ap (λ qs. e.queue ∷ qs) (ended_unfed es)

pub unfed_queues : (es fs : List OfEnds) → map unfed fs ≡ map unfed es → queues_ended fs ≡ queues_ended es
unfed_queues es fs e = sym (ended_unfed fs) ∙ (ap queues_ended e ∙ ended_unfed es)

pub all_unfed : (P : OfEnds → Type 0) (es fs : List OfEnds) → map unfed fs ≡ map unfed es → All (λ x. P (unfed x)) es → All (λ x. P (unfed x)) fs
all_unfed P es fs e a k d low =
    let mapped : All P (map unfed fs) = subst (All P) (sym e) (All-map P unfed es a) in
    let within : k < length (map unfed fs) = omega (arith, length-map fs unfed) in
    subst P (get_or-map unfed fs k d d low) (mapped k d within)
