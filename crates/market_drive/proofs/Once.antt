-- No job of a plan is answered twice, where the answers weigh no more than the plan's jobs.
use Rattle.std.proofs.Common.{◌≡◌, ◌≤◌, ◌<◌, ℕ, suc, ◌+◌, Bool, true, false, cond, List, [], ◌∷◌, length, map, get_or, refl, ap, sym, ◌∙◌, subst, arith, eqb, eq-eqb, ne_eqb, inl, inr}
use Rattle.std.specs.List.{AllByRecursion, enumerate_from, sum_by}
use Rattle.std.proofs.lemmas.Bool.{cases_Bool, eqb-true, cases_lt}
use Rattle.std.proofs.lemmas.List.Elements.{All-from_recursion}
use Rattle.std.proofs.lemmas.List.Sums.{sum_by-cons, sum_by-append}
use Rattle.plan_jobs.specs.declared.task.Task.{Task}
use Rattle.plan_jobs.specs.declared.task.Task.TheVariants.{Sum, Digits}
use Rattle.plan_jobs.specs.declared.task.PlannedJob.{PlannedJob}
use Rattle.plan_jobs.specs.declared.task.Job.{Job}
use Rattle.plan_jobs.specs.declared.task.Done.{Done}
use Rattle.drive_plan.specs.Plans.{Planned}
use Rattle.plan_jobs.specs.Outcome.{IsOfPlan, IsSound, times}
use Rattle.worker_main.specs.Books.{results}
use Rattle.market_drive.specs.declared.fault.DriveFault.{DriveFault}
use Rattle.market_drive.specs.declared.fault.DriveFault.TheVariants.{BadPlan, Unservable, Unfinished, Doubled, Missing, Memory}
use Rattle.market_drive.specs.Driving.{IsEnding, IsLate}
use Rattle.market_drive.specs.Ending.{IsDueTo}
use Rattle.market_drive.specs.Jobs.{job_of, numbered, all_kept_back}
use Rattle.market_drive.specs.Reports.{OfReports, shown}

-- ---- whether jobs are the same

abbrev same_task : Task → Task → Bool
same_task (Sum a) (Sum b) = eqb a b
same_task (Digits a) (Digits b) = eqb a b
same_task (Sum a) (Digits b) = false
same_task (Digits a) (Sum b) = false

task_is : (s t : Task) → same_task s t ≡ true → s ≡ t
task_is (Sum a) (Sum b) e = ap Sum (eqb-true a b e)
task_is (Digits a) (Digits b) e = ap Digits (eqb-true a b e)
task_is (Sum a) (Digits b) e = cc
task_is (Digits a) (Sum b) e = cc

task_self : (t : Task) → same_task t t ≡ true
task_self (Sum a) = eq-eqb a a refl
task_self (Digits a) = eq-eqb a a refl

-- 1 where a job is this one
abbrev hit : Job → Job → ℕ
hit x job = cond (eqb job.number x.number) (cond (same_task job.task x.task) 1 0) 0

hits_self : (x : Job) → hit x x ≡ 1
hits_self x = ap (λ b. cond b (cond (same_task x.task x.task) 1 0) 0) (eq-eqb x.number x.number refl) ∙ ap (λ b. cond b 1 0) (task_self x.task)

hits : (x job : Job) → 0 < hit x job → (job.number ≡ x.number) × (job.task ≡ x.task)
hits x job lt =
    elim (cases_Bool (eqb job.number x.number)) [
      | inl t ↦ elim (cases_Bool (same_task job.task x.task)) [
        | inl s ↦ (eqb-true job.number x.number t, task_is job.task x.task s)
        | inr f ↦ absurd (let e : hit x job ≡ 0 = ap (λ b. cond b (cond (same_task job.task x.task) 1 0) 0) t ∙ ap (λ b. cond b 1 0) f in omega arith)
      ]
      | inr f ↦ absurd (let e : hit x job ≡ 0 = ap (λ b. cond b (cond (same_task job.task x.task) 1 0) 0) f in omega arith)
    ]

-- ---- the jobs of a plan

-- a job that is hit is one of them
found : (n : ℕ) (jobs : List PlannedJob) (x : Job) → 0 < sum_by (hit x) (map job_of (enumerate_from n jobs)) → (k : ℕ) × (k < length jobs) × (x.number ≡ k + n) × ((d : PlannedJob) → x.task ≡ (get_or jobs k d).task)
found n [] x lt = absurd (omega arith)
found n (job ∷ jobs) x lt =
    let first = job_of (n, job) in
    let c = sum_by-cons (hit x) first (map job_of (enumerate_from (n + 1) jobs)) in
    elim (cases_lt 0 (hit x first)) [
      | inl hit ↦ let h = hits x first hit in (0, omega arith, sym h.0 ∙ (let e : n ≡ 0 + n = omega arith in e), λ d. sym h.1)
      | inr miss ↦ let r = found (n + 1) jobs x (omega arith) in (suc r.0, (let l = r.1 in omega arith), (let e = r.2 in omega arith), λ d. r.3 d)
    ]

-- 1 where a job has this number
abbrev has : ℕ → Job → ℕ
has number job = cond (eqb job.number number) 1 0

has_cons : (n number : ℕ) (job : PlannedJob) (jobs : List PlannedJob) → sum_by (has number) (map job_of (enumerate_from n (job ∷ jobs))) ≡ cond (eqb n number) 1 0 + sum_by (has number) (map job_of (enumerate_from (n + 1) jobs))
has_cons n number job jobs = sum_by-cons (has number) (job_of (n, job)) (map job_of (enumerate_from (n + 1) jobs))

-- each number stands once among them
none_below : (n number : ℕ) (jobs : List PlannedJob) → number < n → sum_by (has number) (map job_of (enumerate_from n jobs)) ≡ 0
none_below n number [] lt = refl
none_below n number (job ∷ jobs) lt =
    let c = has_cons n number job jobs in
    let miss : cond {A = ℕ} (eqb n number) 1 0 ≡ 0 = ap (λ b. cond b 1 0) (ne_eqb n number (λ e. let f : ⊥ = omega arith in f)) in
    let rest = none_below (n + 1) number jobs (omega arith) in
    omega arith

most_once : (n number : ℕ) (jobs : List PlannedJob) → sum_by (has number) (map job_of (enumerate_from n jobs)) ≤ 1
most_once n number [] = omega arith
most_once n number (job ∷ jobs) =
    let c = has_cons n number job jobs in
    elim (cases_Bool (eqb n number)) [
      | inl t ↦
          let e : cond {A = ℕ} (eqb n number) 1 0 ≡ 1 = ap (λ b. cond b 1 0) t in
          let s = eqb-true n number t in
          let rest = none_below (n + 1) number jobs (omega arith) in
          omega arith
      | inr f ↦
          let e : cond {A = ℕ} (eqb n number) 1 0 ≡ 0 = ap (λ b. cond b 1 0) f in
          let rest = most_once (n + 1) number jobs in
          omega arith
    ]

-- ---- answers that weigh no more

abbrev IsWithin : List PlannedJob → List Done → Type 0
IsWithin jobs ds = (weigh : Job → ℕ) → sum_by weigh (results ds) ≤ sum_by weigh (numbered jobs)

abbrev answered : Done → Job
answered d = record { number = d.number; task = d.task }

of_plan : (jobs : List PlannedJob) (d : Done) → 0 < sum_by (hit (answered d)) (numbered jobs) → IsOfPlan jobs d
of_plan jobs d lt =
    let r = found 1 jobs (answered d) lt in
    let at : d.number ≡ r.0 + 1 = r.2 in
    let long = r.1 in
    (omega arith, omega arith, λ k job e. (let same : r.0 ≡ k = omega arith in r.3 job ∙ ap (λ j. (get_or jobs j job).task) same))

each_of_plan : (jobs : List PlannedJob) (ds : List Done) → IsWithin jobs ds → AllByRecursion (λ (d : Done). IsOfPlan jobs d) ds
each_of_plan jobs [] h = tt
each_of_plan jobs (d ∷ ds) h = (
  of_plan jobs d (
      let c = sum_by-cons (hit (answered d)) (answered d) (results ds) in
      let own = hits_self (answered d) in
      let within = h (hit (answered d)) in
      omega arith),
  each_of_plan jobs ds (λ weigh. let c = sum_by-cons weigh (answered d) (results ds) in let within = h weigh in omega arith),
)

times_are : (number : ℕ) (ds : List Done) → times number ds ≡ sum_by (has number) (results ds)
times_are number [] = refl
times_are number (d ∷ ds) =
    let a = sum_by-cons (λ (x : Done). cond (eqb x.number number) 1 0) d ds in
    let b = sum_by-cons (has number) (answered d) (results ds) in
    let rest = times_are number ds in
    omega arith

sound : (jobs : List PlannedJob) (ds : List Done) (number : ℕ) → IsWithin jobs ds → IsSound jobs ds number
sound jobs ds number h = (
  (let a = times_are number ds in let b = h (has number) in let c = most_once 1 number jobs in omega arith),
  All-from_recursion (λ (d : Done). d.number ≡ number → IsOfPlan jobs d) ds (weaker ds (each_of_plan jobs ds h)),
) where
  weaker : (es : List Done) → AllByRecursion (λ (d : Done). IsOfPlan jobs d) es → AllByRecursion (λ (d : Done). d.number ≡ number → IsOfPlan jobs d) es
  weaker [] a = tt
  weaker (e ∷ es) a = ((λ _. a.0), weaker es a.1)

abbrev IsMemory : DriveFault → Type 0
IsMemory Memory = Unit {0}
IsMemory fault = ⊥

-- so a drive comes to no doubled answer
pub ending : (p : Planned) (r : OfReports) (fault : DriveFault) → IsLate fault → (r.torn ≡ true → fault ≡ Memory) → (r.torn ≡ false → IsDueTo p.jobs r.done r.ended fault)
    → (r.torn ≡ false → (weigh : Job → ℕ) → sum_by weigh (shown r) ≤ sum_by weigh (numbered p.jobs)) → IsEnding p fault
ending p r (BadPlan line) late torn due once = absurd late
ending p r (Unservable a) late torn due once = absurd late
ending p r Unfinished late torn due once = tt
ending p r Memory late torn due once = tt
ending p r (Doubled number) late torn due once = elim (cases_Bool r.torn) [
  | inl t ↦ absurd (subst IsMemory (sym (torn t)) tt)
  | inr f ↦ (due f).1.0 (sound p.jobs r.done number (λ weigh. let a = sum_by-append weigh (results r.done) (all_kept_back r.ended) in let b = once f weigh in omega arith))
]
ending p r (Missing number) late torn due once = elim (cases_Bool r.torn) [
  | inl t ↦ absurd (subst IsMemory (sym (torn t)) tt)
  | inr f ↦ let m = (due f).1 in (m.1, m.2)
]
