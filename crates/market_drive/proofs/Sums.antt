-- Jobs counted by sums: what takers took, what queues were fed with, and what workers have shown.
use Rattle.std.proofs.Common.{◌≡◌, ◌≤◌, ℕ, ◌+◌, List, [], ◌∷◌, ◌++◌, get_or, map, refl, ap, ◌∙◌, subst, arith, append-nil, Option, Some, None, Result, Ok, Err, OnOk, IfErr}
use Rattle.std.specs.List.{All, sum_by}
use Rattle.std.proofs.lemmas.List.{map-append}
use Rattle.std.proofs.lemmas.List.Sorted.{IsPermutation-map, sum_by-IsPermutation}
use Rattle.std.proofs.lemmas.List.Sums.{get_or-le-sum_by, sum_by-cons, sum_by-append, sum_by_push}
use Rattle.std.proofs.lemmas.Grind.{flat_map-append}
use Rattle.job_queue.specs.declared.view.Fed.{Fed}
use Rattle.job_queue.specs.Jobs.{fed_from}
use Rattle.job_queue.specs.Seen.{QueueId, OfFeeder, OfTaker, fresh_taker, all_stored, all_taken, AllTaken, IsLeft}
use Rattle.plan_jobs.specs.declared.task.Job.{Job}
use Rattle.plan_jobs.specs.declared.task.Done.{Done}
use Rattle.worker_main.specs.declared.report.Ended.{Ended}
use Rattle.worker_main.specs.Books.{jobs_of, results, kept_back}
use Rattle.market_drive.specs.Racks.{OfEnds, OfRack}
use Rattle.market_drive.specs.Jobs.{taken_by, taken_weight, fed_weight, all_kept_back, HasShown}
use Rattle.market_drive.specs.Reports.{OfReports, told, shown}

module _ (weigh : Job → ℕ) where
  -- ---- a taker, a rack, or a queue's ends more
  pub taken_more : (ts us : List (OfTaker Job)) (t : OfTaker Job) → us ≡ ts ++ t ∷ [] → sum_by weigh (taken_by us) ≡ sum_by weigh (taken_by ts) + sum_by weigh (jobs_of t.taken)
  taken_more ts us t e =
      let all : all_taken us ≡ all_taken ts ++ t.taken = ap all_taken e ∙ (flat_map-append (λ (u : OfTaker Job). u.taken) ts (t ∷ []) ∙ ap (λ l. all_taken ts ++ l) (append-nil t.taken)) in
      ap (λ l. sum_by weigh (jobs_of l)) all ∙ (ap (sum_by weigh) (map-append (λ (x : Fed Job). x.job) (all_taken ts) t.taken) ∙ sum_by-append weigh (taken_by ts) (jobs_of t.taken))

  pub racks_more : (rs qs : List OfRack) (r : OfRack) → qs ≡ rs ++ r ∷ [] → taken_weight weigh qs ≡ taken_weight weigh rs + sum_by weigh (taken_by r.takers)
  racks_more rs qs r e = ap (taken_weight weigh) e ∙ sum_by_push (λ (x : OfRack). sum_by weigh (taken_by x.takers)) rs r

  pub fed_more : (es fs : List OfEnds) (e : OfEnds) → fs ≡ es ++ e ∷ [] → fed_weight weigh fs ≡ fed_weight weigh es + sum_by weigh e.stored
  fed_more es fs e is = ap (fed_weight weigh) is ∙ sum_by_push (λ (x : OfEnds). sum_by weigh x.stored) es e

  -- a taker goes from a queue's ends to a rack, or back
  pub taker_goes : (left after moved : List OfRack) (with without : OfRack) (more less : List (OfTaker Job)) (t : OfTaker Job)
      → with.takers ≡ without.takers ++ t ∷ [] → more ≡ less ++ t ∷ [] → left ≡ after ++ without ∷ []
      → (taken_weight weigh after + taken_weight weigh (moved ++ with ∷ [])) + sum_by weigh (taken_by less) ≡ (taken_weight weigh left + taken_weight weigh moved) + sum_by weigh (taken_by more)
  taker_goes left after moved with without more less t rack ends is =
      let a = racks_more after left without is in
      let b = racks_more moved (moved ++ with ∷ []) with refl in
      let c = taken_more without.takers with.takers t rack in
      let d = taken_more less more t ends in
      omega arith

  pub taker_comes : (left after moved : List OfRack) (with without : OfRack) (more less : List (OfTaker Job)) (t : OfTaker Job)
      → with.takers ≡ without.takers ++ t ∷ [] → more ≡ less ++ t ∷ [] → left ≡ after ++ with ∷ []
      → (taken_weight weigh after + taken_weight weigh (moved ++ without ∷ [])) + sum_by weigh (taken_by more) ≡ (taken_weight weigh left + taken_weight weigh moved) + sum_by weigh (taken_by less)
  taker_comes left after moved with without more less t rack ends is =
      let a = racks_more after left with is in
      let b = racks_more moved (moved ++ without ∷ []) without refl in
      let c = taken_more without.takers with.takers t rack in
      let d = taken_more less more t ends in
      omega arith

  -- ---- a queue that is settled
  stored_jobs : (n p : ℕ) (jobs : List Job) → jobs_of (fed_from n p jobs) ≡ jobs
  stored_jobs n p [] = refl
  stored_jobs n p (job ∷ jobs) = ap (λ l. job ∷ l) (stored_jobs n (p + 1) jobs)

  stored_alone : (f : OfFeeder Job) → jobs_of (all_stored (f ∷ [])) ≡ f.stored
  stored_alone f = ap jobs_of (append-nil (fed_from f.number 0 f.stored)) ∙ stored_jobs f.number 0 f.stored

  -- its only feeder stored what its takers took
  pub settled_once : (fs gs : List (OfFeeder Job)) (ts : List (OfTaker Job)) (f : OfFeeder Job) (r : Result Unit Job) → fs ≡ gs ++ f ∷ [] → gs ≡ []
      → OnOk r (AllTaken fs ts) → IfErr r (IsLeft fs ts) → sum_by weigh (taken_by ts) ≤ sum_by weigh f.stored
  settled_once fs gs ts f (Ok _) is none all left =
      let one : fs ≡ f ∷ [] = is ∙ ap (λ l. l ++ f ∷ []) none in
      let same = sum_by-IsPermutation weigh (jobs_of (all_stored fs)) (taken_by ts) (IsPermutation-map (λ (x : Fed Job). x.job) (all_stored fs) (all_taken ts) all) in
      let stored = ap (λ l. sum_by weigh (jobs_of (all_stored l))) one ∙ ap (sum_by weigh) (stored_alone f) in
      omega arith
  settled_once fs gs ts f (Err job) is none all left =
      let one : fs ≡ f ∷ [] = is ∙ ap (λ l. l ++ f ∷ []) none in
      let still = left.0 ∷ left.1 in
      let same = sum_by-IsPermutation weigh (jobs_of (all_stored fs)) (jobs_of (all_taken ts ++ still)) (IsPermutation-map (λ (x : Fed Job). x.job) (all_stored fs) (all_taken ts ++ still) left.3) in
      let stored = ap (λ l. sum_by weigh (jobs_of (all_stored l))) one ∙ ap (sum_by weigh) (stored_alone f) in
      let both = ap (sum_by weigh) (map-append (λ (x : Fed Job). x.job) (all_taken ts) still) ∙ sum_by-append weigh (taken_by ts) (jobs_of still) in
      omega arith

  -- ---- reports
  pub shown_more : (r : OfReports) (ds : List Done) (ended : Ended) → sum_by weigh (shown (told r ds ended)) ≡ sum_by weigh (shown r) + sum_by weigh (results ds ++ kept_back ended)
  shown_more r ds ended =
      let a = sum_by-append weigh (results (r.done ++ ds)) (all_kept_back (r.ended ++ ended ∷ [])) in
      let b = ap (sum_by weigh) (map-append {A = Done} {B = Job} (λ d. record { number = d.number; task = d.task }) r.done ds) ∙ sum_by-append weigh (results r.done) (results ds) in
      let c = ap (sum_by weigh) (flat_map-append kept_back r.ended (ended ∷ []) ∙ ap (λ l. all_kept_back r.ended ++ l) (append-nil (kept_back ended))) ∙ sum_by-append weigh (all_kept_back r.ended) (kept_back ended) in
      let d = sum_by-append weigh (results r.done) (all_kept_back r.ended) in
      let e = sum_by-append weigh (results ds) (kept_back ended) in
      omega arith

  -- a worker's report tells of what it took
  pub shown_so : (ts : List (OfTaker Job)) (ds : List Done) (o : Option Ended) (ended : Ended) → o ≡ Some ended → HasShown ts ds o → sum_by weigh (results ds ++ kept_back ended) ≡ sum_by weigh (taken_by ts)
  shown_so ts ds o ended is h = sum_by-IsPermutation weigh (taken_by ts) (results ds ++ kept_back ended) (subst (HasShown ts ds) is h)

  pub shown_none : (ts : List (OfTaker Job)) (ds : List Done) (o : Option Ended) → o ≡ None → HasShown ts ds o → sum_by weigh (taken_by ts) ≡ 0
  shown_none ts ds o is h = let none = (subst (HasShown ts ds) is h).0 in ap (sum_by weigh) none

-- ---- nothing was taken where it weighs nothing
nothing : (jobs : List Job) → sum_by (λ (job : Job). 1) jobs ≡ 0 → jobs ≡ []
nothing [] e = refl
nothing (job ∷ jobs) e = let c = sum_by-cons (λ (x : Job). 1) job jobs in absurd (omega arith)

pub unused_all : (rs : List OfRack) → ((weigh : Job → ℕ) → taken_weight weigh rs ≡ 0) → All (λ (r : OfRack). taken_by r.takers ≡ []) rs
unused_all rs e k d low =
    let least = get_or-le-sum_by (λ (r : OfRack). sum_by (λ (job : Job). 1) (taken_by r.takers)) rs k d low in
    nothing (taken_by (get_or rs k d).takers) (omega (arith, least, e (λ job. 1)))

-- new takers have taken nothing
pub fresh_took : (id : QueueId) (numbers : List ℕ) → taken_by (map (fresh_taker id) numbers) ≡ []
fresh_took id [] = refl
fresh_took id (n ∷ numbers) = fresh_took id numbers
