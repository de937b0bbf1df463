-- What all takers took, when one of them takes more.
use Rattle.std.proofs.Common.{◌≡◌, ℕ, zero, suc, ◌+◌, List, [], ◌∷◌, ◌++◌, set, slice_get, Some, refl, ap, sym, ◌∙◌, subst, append_assoc, append-nil, arith, IsPermutation, Option, None}
use Rattle.std.specs.List.{AllZip}
use Rattle.std.proofs.lemmas.Option.{none-some, same_Some}
use Rattle.std.proofs.lemmas.List.{map-append}
use Rattle.std.proofs.lemmas.List.Sorted.{IsPermutation-refl, IsPermutation-trans, IsPermutation-append_left, IsPermutation-append_right, IsPermutation-append_comm, IsPermutation-map}
use Rattle.job_queue.specs.declared.view.Fed.{Fed}
use Rattle.job_queue.specs.Seen.{OfTaker, taken_one, missed_one, all_taken}
use Rattle.plan_jobs.specs.declared.task.Job.{Job}
use Rattle.worker_main.specs.declared.report.Ended.{Ended}
use Rattle.worker_main.specs.declared.station.Station.{Station}
use Rattle.worker_main.specs.Stations.{IsTakerOf}
use Rattle.worker_main.specs.Books.{jobs_of, kept_back, IsTakerAfter}
use Rattle.worker_main.specs.Steps.{took, still_held, HasPopped, HasEarned}
use Rattle.worker_main.proofs.Lists.{prefix_self, prefix_trans, zip_self, zip_set, zip_trans}

-- ---- one taker

took_one : (p : OfTaker Job) (x : Fed Job) → taken_one p x ≡ took p (x ∷ []) 0
took_one p x =
    let sum : p.empties ≡ p.empties + 0 = omega arith in
    λ i. record { queue = p.queue; number = p.number; taken = p.taken ++ x ∷ []; empties = sum i }

took_none : (p : OfTaker Job) → missed_one p ≡ took p [] 1
took_none p = λ i. record { queue = p.queue; number = p.number; taken = sym (append-nil p.taken) i; empties = p.empties + 1 }

took_nothing : (p : OfTaker Job) → p ≡ took p [] 0
took_nothing p =
    let sum : p.empties ≡ p.empties + 0 = omega arith in
    λ i. record { queue = p.queue; number = p.number; taken = sym (append-nil p.taken) i; empties = sum i }

took_again : (p : OfTaker Job) (xs ys : List (Fed Job)) (n m : ℕ) → took (took p xs n) ys m ≡ took p (xs ++ ys) (n + m)
took_again p xs ys n m =
    let sum : p.empties + n + m ≡ p.empties + (n + m) = omega arith in
    λ i. record { queue = p.queue; number = p.number; taken = append_assoc p.taken xs ys i; empties = sum i }

pub popped_nothing : (p : OfTaker Job) (held : List Job) → HasPopped p held p held
popped_nothing p held = ([], 0, took_nothing p, sym (append-nil held))

popped_more : (p q r : OfTaker Job) (held held1 held2 : List Job) (ys : List (Fed Job)) (m : ℕ) → HasPopped p held q held1 → r ≡ took q ys m → held2 ≡ held1 ++ jobs_of ys → HasPopped p held r held2
popped_more p q r held held1 held2 ys m u e d = (
  u.0 ++ ys,
  u.1 + m,
  e ∙ (ap (λ t. took t ys m) u.2 ∙ took_again p u.0 ys u.1 m),
  d ∙ (ap (λ l. l ++ jobs_of ys) u.3 ∙ (append_assoc held (jobs_of u.0) (jobs_of ys) ∙ ap (λ l. held ++ l) (sym (map-append (λ (x : Fed Job). x.job) u.0 ys)))),
)

-- it took one more, which is held then
pub popped_one : (p q r : OfTaker Job) (held held1 held2 : List Job) (x : Fed Job) (job : Job) → HasPopped p held q held1 → x.job ≡ job → r ≡ taken_one q x → held2 ≡ held1 ++ job ∷ [] → HasPopped p held r held2
popped_one p q r held held1 held2 x job u is e d = popped_more p q r held held1 held2 (x ∷ []) 0 u (e ∙ took_one q x) (d ∙ ap (λ j. held1 ++ j ∷ []) (sym is))

-- it found none
pub popped_none : (p q r : OfTaker Job) (held held1 held2 : List Job) → HasPopped p held q held1 → r ≡ missed_one q → held2 ≡ held1 → HasPopped p held r held2
popped_none p q r held held1 held2 u e d = popped_more p q r held held1 held2 [] 1 u (e ∙ took_none q) (d ∙ sym (append-nil held1))

pub taker_self : (p : OfTaker Job) → IsTakerAfter p p
taker_self p = (refl, refl, prefix_self p.taken, omega arith)

pub taker_trans : (p q r : OfTaker Job) → IsTakerAfter p q → IsTakerAfter q r → IsTakerAfter p r
taker_trans p q r a b = (b.0 ∙ a.0, b.1 ∙ a.1, prefix_trans p.taken q.taken r.taken a.2 b.2, (let h = a.3 in let k = b.3 in omega arith))

pub taker_after : (p q : OfTaker Job) (held after : List Job) → HasPopped p held q after → IsTakerAfter p q
taker_after p q held after u = (
  ap (λ (t : OfTaker Job). t.queue) u.2,
  ap (λ (t : OfTaker Job). t.number) u.2,
  (u.0, sym (ap (λ (t : OfTaker Job). t.taken) u.2)),
  (let e : q.empties ≡ p.empties + u.1 = ap (λ (t : OfTaker Job). t.empties) u.2 in omega arith),
)

-- ---- all takers

taken_more : (ts : List (OfTaker Job)) (k : ℕ) (p q : OfTaker Job) (xs : List (Fed Job)) → slice_get ts k ≡ Some p → q.taken ≡ p.taken ++ xs → IsPermutation (all_taken (set ts k q)) (all_taken ts ++ xs)
taken_more [] k p q xs at e = absurd (none-some p at)
taken_more (t ∷ ts) zero p q xs at e =
    let rest = all_taken ts in
    let same : t.taken ≡ p.taken = ap (λ (u : OfTaker Job). u.taken) (same_Some t p at) in
    let from : t.taken ++ (xs ++ rest) ≡ q.taken ++ rest = sym (append_assoc t.taken xs rest) ∙ ap (λ l. l ++ rest) (ap (λ l. l ++ xs) same ∙ sym e) in
    let to : t.taken ++ (rest ++ xs) ≡ (t.taken ++ rest) ++ xs = sym (append_assoc t.taken rest xs) in
    subst (λ l. IsPermutation l ((t.taken ++ rest) ++ xs)) from
    (subst (IsPermutation (t.taken ++ (xs ++ rest))) to (IsPermutation-append_right t.taken (xs ++ rest) (rest ++ xs) (IsPermutation-append_comm xs rest)))
taken_more (t ∷ ts) (suc k) p q xs at e =
    subst (IsPermutation (t.taken ++ all_taken (set ts k q))) (sym (append_assoc t.taken (all_taken ts) xs))
    (IsPermutation-append_right t.taken (all_taken (set ts k q)) (all_taken ts ++ xs) (taken_more ts k p q xs at e))

pub earned_nothing : (ts : List (OfTaker Job)) (held : List Job) → HasEarned ts held ts held
earned_nothing ts held =
    ([], sym (append-nil held), subst (IsPermutation (jobs_of (all_taken ts))) (sym (append-nil (jobs_of (all_taken ts)))) (IsPermutation-refl (jobs_of (all_taken ts))))

-- the taker at one place popped
pub earned_at : (ts : List (OfTaker Job)) (k : ℕ) (p q : OfTaker Job) (held after : List Job) → slice_get ts k ≡ Some p → HasPopped p held q after → HasEarned ts held (set ts k q) after
earned_at ts k p q held after at u = (
  jobs_of u.0,
  u.3,
  subst (IsPermutation (jobs_of (all_taken (set ts k q)))) (map-append (λ (x : Fed Job). x.job) (all_taken ts) u.0)
      (IsPermutation-map (λ (x : Fed Job). x.job) (all_taken (set ts k q)) (all_taken ts ++ u.0) (taken_more ts k p q u.0 at (ap (λ (t : OfTaker Job). t.taken) u.2))),
)

pub earned_trans : (a b c : List (OfTaker Job)) (held held1 held2 : List Job) → HasEarned a held b held1 → HasEarned b held1 c held2 → HasEarned a held c held2
earned_trans a b c held held1 held2 u v = (
  u.0 ++ v.0,
  v.1 ∙ (ap (λ l. l ++ v.0) u.1 ∙ append_assoc held u.0 v.0),
  IsPermutation-trans (jobs_of (all_taken c)) (jobs_of (all_taken b) ++ v.0) (jobs_of (all_taken a) ++ (u.0 ++ v.0)) v.2
      (subst (IsPermutation (jobs_of (all_taken b) ++ v.0)) (append_assoc (jobs_of (all_taken a)) u.0 v.0) (IsPermutation-append_left v.0 (jobs_of (all_taken b)) (jobs_of (all_taken a) ++ u.0) u.2)),
)

-- where nothing was held before, what is held after is what was earned
pub earned_from_nothing : (a b : List (OfTaker Job)) (after : List Job) → HasEarned a [] b after → IsPermutation (jobs_of (all_taken b)) (jobs_of (all_taken a) ++ after)
earned_from_nothing a b after u = subst (λ l. IsPermutation (jobs_of (all_taken b)) (jobs_of (all_taken a) ++ l)) (sym u.1) u.2

-- where nothing is held beside what was run
pub earned_whole : (a b : List (OfTaker Job)) (held ran : List Job) (ended : Option Ended) → ended ≡ None → HasEarned a held b (ran ++ still_held ended) → HasEarned a held b ran
earned_whole a b held ran ended is u = subst (HasEarned a held b) (ap (λ e. ran ++ still_held e) is ∙ append-nil ran) u

pub earned_with : (a b : List (OfTaker Job)) (held ran : List Job) (o : Option Ended) (ended : Ended) → o ≡ Some ended → HasEarned a held b (ran ++ still_held o) → HasEarned a held b (ran ++ kept_back ended)
earned_with a b held ran o ended is u = subst (λ e. HasEarned a held b (ran ++ still_held e)) is u

-- the takers are of the stations' queues still
pub still_of : (stations : List Station) (a b : List (OfTaker Job)) → AllZip IsTakerOf stations a → AllZip IsTakerAfter a b → AllZip IsTakerOf stations b
still_of stations a b = zip_trans IsTakerOf IsTakerAfter IsTakerOf (λ s p q of after. after.0 ∙ of) stations a b

pub takers_self : (ts : List (OfTaker Job)) → AllZip IsTakerAfter ts ts
takers_self ts = zip_self IsTakerAfter taker_self ts

pub takers_trans : (a b c : List (OfTaker Job)) → AllZip IsTakerAfter a b → AllZip IsTakerAfter b c → AllZip IsTakerAfter a c
takers_trans = zip_trans IsTakerAfter IsTakerAfter IsTakerAfter taker_trans

pub takers_at : (ts : List (OfTaker Job)) (k : ℕ) (p q : OfTaker Job) (held after : List Job) → slice_get ts k ≡ Some p → HasPopped p held q after → AllZip IsTakerAfter ts (set ts k q)
takers_at ts k p q held after at u = zip_set IsTakerAfter ts ts k p q (λ t e. taker_trans t p q e (taker_after p q held after u)) at (takers_self ts)
