-- What queues are fed with, job by job.
use Rattle.std.proofs.Common.{◌≡◌, ◌≢◌, ◌≤◌, ◌<◌, ℕ, suc, ◌+◌, ◌==◌, Bool, true, cond, List, [], ◌∷◌, ◌++◌, length, map, take, set, get_or, slice_get, Some, refl, ap, sym, ◌∙◌, subst, arith, append-nil, eq-eqb, ne_eqb, inl, inr}
use Rattle.std.specs.List.{All, enumerate_from, filter, sum_by}
use Rattle.std.proofs.lemmas.Bool.{cases_Bool}
use Rattle.std.proofs.lemmas.List.{map-append, take_more, length-take-le, map-set, set-get_or}
use Rattle.std.proofs.lemmas.List.Elements.{filter-append}
use Rattle.std.proofs.lemmas.List.Sums.{sum_by-cons, sum_by_push, sum_by-set, sum_by-le, sum_by-take-le, count_by_more_yes, count_by-le-length}
use Rattle.std.proofs.lemmas.Option.{same_Some, slice_get_within, get_or_from_slice_get}
use mathlib.Core.Logic.{dite}
use native.Mathlib.Decide.{ℕ_discrete}
use Rattle.drive_plan.specs.declared.plan.PlannedArena.{PlannedArena}
use Rattle.plan_jobs.specs.declared.task.PlannedJob.{PlannedJob}
use Rattle.plan_jobs.specs.declared.task.Job.{Job}
use Rattle.drive_plan.specs.Plans.{FitsJob}
use Rattle.worker_main.specs.declared.station.Station.{Station}
use Rattle.worker_main.proofs.Lists.{set_same, set_else}
use Rattle.market_drive.specs.Racks.{OfEnds, unfed}
use Rattle.market_drive.specs.Arenas.{AreNumbered, HasRoomFor, count_of}
use Rattle.market_drive.specs.Jobs.{AreFed, HaveRequestsOf, IsUnfed, job_of, jobs_for, numbered, fed_weight}

-- a plan has at most 64 arenas
pub fit_most : (arenas : ℕ) (jobs : List PlannedJob) → arenas ≤ 64 → All (FitsJob arenas) jobs → All (FitsJob 64) jobs
fit_most arenas jobs few fit k d low = let own = fit k d low in (own.0, omega arith)

-- ---- the jobs of a plan, one more

enumerate_push : (n : ℕ) (jobs : List PlannedJob) (job : PlannedJob) → enumerate_from n (jobs ++ job ∷ []) ≡ enumerate_from n jobs ++ (n + length jobs, job) ∷ []
enumerate_push n [] job = let e : n ≡ n + 0 = omega arith in λ i. (e i, job) ∷ []
enumerate_push n (x ∷ jobs) job =
    let e : n + 1 + length jobs ≡ n + length (x ∷ jobs) = omega arith in
    ap (λ l. (n, x) ∷ l) (enumerate_push (n + 1) jobs job ∙ (λ i. enumerate_from (n + 1) jobs ++ (e i, job) ∷ []))

module _ (jobs : List PlannedJob) (i : ℕ) (job : PlannedJob) (low : i < length jobs) (is : job ≡ get_or jobs i job) where
  abbrev pub next : Job
  next = record { number = i + 1; task = job.task }

  pairs_more : enumerate_from 1 (take (i + 1) jobs) ≡ enumerate_from 1 (take i jobs) ++ (i + 1, job) ∷ []
  pairs_more =
      let more : take (i + 1) jobs ≡ take i jobs ++ job ∷ [] = take_more jobs i job low ∙ (λ k. take i jobs ++ sym is k ∷ []) in
      let long : 1 + length (take i jobs) ≡ i + 1 = (let l = length-take-le i jobs (omega arith) in omega arith) in
      ap (enumerate_from 1) more ∙ (enumerate_push 1 (take i jobs) job ∙ (λ k. enumerate_from 1 (take i jobs) ++ (long k, job) ∷ []))

  pub numbered_more : numbered (take (i + 1) jobs) ≡ numbered (take i jobs) ++ next ∷ []
  numbered_more = ap (map job_of) pairs_more ∙ map-append job_of (enumerate_from 1 (take i jobs)) ((i + 1, job) ∷ [])

  module _ (arena : ℕ) where
    abbrev own : ℕ × PlannedJob → Bool
    own e = e.1.arena == arena

    split : jobs_for arena (take (i + 1) jobs) ≡ jobs_for arena (take i jobs) ++ map job_of (filter own ((i + 1, job) ∷ []))
    split =
        ap (λ l. map job_of (filter own l)) pairs_more
        ∙ (ap (map job_of) (filter-append own (enumerate_from 1 (take i jobs)) ((i + 1, job) ∷ [])) ∙ map-append job_of (filter own (enumerate_from 1 (take i jobs))) (filter own ((i + 1, job) ∷ [])))

    pub own_more : job.arena ≡ arena → jobs_for arena (take (i + 1) jobs) ≡ jobs_for arena (take i jobs) ++ next ∷ []
    own_more e = split ∙ ap (λ b. jobs_for arena (take i jobs) ++ map job_of (cond b ((i + 1, job) ∷ []) [])) (eq-eqb job.arena arena e)

    pub own_same : job.arena ≢ arena → jobs_for arena (take (i + 1) jobs) ≡ jobs_for arena (take i jobs)
    own_same ne = split ∙ (ap (λ b. jobs_for arena (take i jobs) ++ map job_of (cond b ((i + 1, job) ∷ []) [])) (ne_eqb job.arena arena ne) ∙ append-nil (jobs_for arena (take i jobs)))

length_own : (n arena : ℕ) (jobs : List PlannedJob) → length (map job_of (filter (λ (e : ℕ × PlannedJob). e.1.arena == arena) (enumerate_from n jobs))) ≡ count_of jobs arena
length_own n arena [] = refl
length_own n arena (job ∷ jobs) =
    let own : ℕ × PlannedJob → Bool = λ e. e.1.arena == arena in
    let others = filter own (enumerate_from (n + 1) jobs) in
    let rest : length (map job_of others) ≡ count_of jobs arena = length_own (n + 1) arena jobs in
    let count : count_of (job ∷ jobs) arena ≡ cond (job.arena == arena) 1 0 + count_of jobs arena = sum_by-cons (λ (x : PlannedJob). cond (x.arena == arena) 1 0) job jobs in
    elim (cases_Bool (job.arena == arena)) [
      | inl t ↦
          let c : count_of (job ∷ jobs) arena ≡ 1 + count_of jobs arena = count ∙ ap (λ b. cond b 1 0 + count_of jobs arena) t in
          let l : length (map job_of (filter own (enumerate_from n (job ∷ jobs)))) ≡ suc (length (map job_of others)) = ap (λ b. length (map job_of (cond b ((n, job) ∷ others) others))) t in
          omega arith
      | inr f ↦
          let c : count_of (job ∷ jobs) arena ≡ 0 + count_of jobs arena = count ∙ ap (λ b. cond b 1 0 + count_of jobs arena) f in
          let l : length (map job_of (filter own (enumerate_from n (job ∷ jobs)))) ≡ length (map job_of others) = ap (λ b. length (map job_of (cond b ((n, job) ∷ others) others))) f in
          omega arith
    ]

-- a queue has room for the next of its arena's jobs
pub room_for_next : (jobs : List PlannedJob) (i : ℕ) (job : PlannedJob) (s : Station) (stored : List Job) → i < length jobs → job ≡ get_or jobs i job → job.arena ≡ s.arena
    → stored ≡ jobs_for s.arena (take i jobs) → HasRoomFor jobs s → (length stored < s.queue.capacity) × (length stored < length jobs)
room_for_next jobs i job s stored low is own fed room =
    let long : length stored ≡ count_of (take i jobs) s.arena = ap (λ (l : List Job). length l) fed ∙ length_own 1 s.arena (take i jobs) in
    let yes : (get_or jobs i job).arena == s.arena ≡ true = eq-eqb (get_or jobs i job).arena s.arena (ap (λ (x : PlannedJob). x.arena) (sym is) ∙ own) in
    let more = count_by_more_yes (λ (x : PlannedJob). x.arena == s.arena) jobs i job low yes in
    let most : count_of (take (i + 1) jobs) s.arena ≤ count_of jobs s.arena = sum_by-take-le (λ (x : PlannedJob). cond (x.arena == s.arena) 1 0) jobs (i + 1) in
    let least : count_of jobs s.arena ≤ length jobs = count_by-le-length (λ (x : PlannedJob). x.arena == s.arena) jobs in
    (omega arith, omega arith)

-- ---- one queue's ends are fed

module _ (ss : List Station) (es : List OfEnds) (jobs : List PlannedJob) (i k : ℕ) (job : PlannedJob) (s : Station) (e new : OfEnds)
    (low : i < length jobs) (is : job ≡ get_or jobs i job) (numbers : AreNumbered ss) (here : slice_get ss k ≡ Some s) (there : slice_get es k ≡ Some e)
    (own : job.arena ≡ s.arena) (more : new.stored ≡ e.stored ++ next jobs i job low is ∷ []) where
  arena_at : (j : ℕ) (t : Station) → slice_get ss j ≡ Some t → t.arena ≡ j + 1
  arena_at j t at = ap (λ (x : Station). x.arena) (sym (get_or_from_slice_get ss j t t at)) ∙ numbers j t (slice_get_within ss j t at)

  pub fed_one : AreFed (take i jobs) ss es → AreFed (take (i + 1) jobs) ss (set es k new)
  fed_one fed j t f at it = dite (ℕ_discrete j k)
      (λ same.
      let station : t ≡ s = same_Some t s (sym at ∙ (ap (slice_get ss) same ∙ here)) in
      let ends : f ≡ new = same_Some f new (sym it ∙ (ap (slice_get (set es k new)) same ∙ set_same es k e new there)) in
      let arena : job.arena ≡ t.arena = own ∙ ap (λ (x : Station). x.arena) (sym station) in
      let before : e.stored ≡ jobs_for t.arena (take i jobs) = fed k s e here there ∙ ap (λ (x : Station). jobs_for x.arena (take i jobs)) (sym station) in
      ap (λ (x : OfEnds). x.stored) ends ∙ (more ∙ ((λ n. before n ++ next jobs i job low is ∷ []) ∙ sym (own_more jobs i job low is t.arena arena)))
      )
      (λ ne.
      let other : job.arena ≢ t.arena = λ same. (let a = arena_at j t at in let b = arena_at k s here in ne (omega arith)) in
      fed j t f at (sym (set_else es k j new ne) ∙ it) ∙ sym (own_same jobs i job low is t.arena other)
      )

  pub weight_one : (weigh : Job → ℕ) → fed_weight weigh es ≡ sum_by weigh (numbered (take i jobs)) → fed_weight weigh (set es k new) ≡ sum_by weigh (numbered (take (i + 1) jobs))
  weight_one weigh all =
      let put = sum_by-set (λ (x : OfEnds). sum_by weigh x.stored) es k new e (slice_get_within es k e there) in
      let old = ap (λ (x : OfEnds). sum_by weigh x.stored) (get_or_from_slice_get es k e e there) in
      let one = ap (sum_by weigh) more ∙ sum_by_push weigh e.stored (next jobs i job low is) in
      let last = ap (sum_by weigh) (numbered_more jobs i job low is) ∙ sum_by_push weigh (numbered (take i jobs)) (next jobs i job low is) in
      omega arith

  pub same_one : unfed new ≡ unfed e → map unfed (set es k new) ≡ map unfed es
  same_one same =
      map-set unfed es k new ∙ (ap (set (map unfed es) k) (same ∙ ap unfed (sym (get_or_from_slice_get es k e e there))) ∙ (sym (map-set unfed es k (get_or es k e)) ∙ ap (map unfed) (set-get_or es k e)))

-- ---- no job yet

pub all_at : {A : Type 0} (P : A → Type 0) (xs : List A) (k : ℕ) (x : A) → All P xs → slice_get xs k ≡ Some x → P x
all_at P xs k x all at = subst P (get_or_from_slice_get xs k x x at) (all k x (slice_get_within xs k x at))

pub nothing_fed : (weigh : Job → ℕ) (es : List OfEnds) → All IsUnfed es → fed_weight weigh es ≡ 0
nothing_fed weigh es all =
    let most = sum_by-le (λ (e : OfEnds). sum_by weigh e.stored) 0 es (λ k e low. (let none = ap (sum_by weigh) (all k e low).1 in omega arith)) in
    omega arith

-- ---- the stations' requests

pub requests_more : (arenas : List PlannedArena) (k : ℕ) (a : PlannedArena) (all ss : List Station) (s : Station) → k < length arenas → a ≡ get_or arenas k a → all ≡ ss ++ s ∷ [] → s.wanted ≡ a.wanted → s.mandatory ≡ a.mandatory
    → HaveRequestsOf (take k arenas) ss → HaveRequestsOf (take (k + 1) arenas) all
requests_more arenas k a all ss s low at is wanted mandatory before =
    let asks : Station → ℕ × ℕ = λ x. (x.wanted, x.mandatory) in
    let planned : PlannedArena → ℕ × ℕ = λ x. (x.wanted, x.mandatory) in
    let more : take (k + 1) arenas ≡ take k arenas ++ a ∷ [] = take_more arenas k a low ∙ (λ i. take k arenas ++ sym at i ∷ []) in
    ap (map asks) is ∙ (map-append asks ss (s ∷ []) ∙ ((λ i. before i ++ (wanted i, mandatory i) ∷ []) ∙ (sym (map-append planned (take k arenas) (a ∷ [])) ∙ ap (map planned) (sym more))))
