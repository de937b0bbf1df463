-- Answers in order of number: how often each number stands among them, and which numbers they lack.
use Rattle.std.proofs.Common.{◌≡◌, ◌≢◌, ℕ, zero, suc, ◌+◌, ◌-◌, ◌<◌, ◌≤◌, ◌⊎◌, inl, inr, ⊎_elim, cond, List, [], ◌∷◌, length, slice_index_or, take, refl, ap, sym, ◌∙◌, subst, arith}
use Rattle.std.specs.Prelude.{◌==◌}
use Rattle.std.specs.List.Sorted.{IsPermutation}
use Rattle.std.proofs.lemmas.Bool.{ne_eqb, eq-eqb}
use Rattle.std.proofs.lemmas.List.{take_all}
use Rattle.std.proofs.lemmas.List.Sums.{count_by_more_no, count_by_more_yes, sum_by-take-le}
use Rattle.std.proofs.lemmas.List.Sorted.{All-permutation, IsPermutation-sym, sum_by-IsPermutation}
use mathlib.Core.Logic.{dite}
use native.Mathlib.Decide.{ℕ_discrete}
use Rattle.plan_jobs.specs.declared.task.Done.{Done}
use Rattle.plan_jobs.specs.declared.task.PlannedJob.{PlannedJob}
use Rattle.plan_jobs.specs.Values.{value_of}
use Rattle.plan_jobs.specs.Outcome.{times, IsOfPlan, IsSound, IsDoubled, IsMissing, IsOutcome}
use Rattle.plan_jobs.specs.Gathering.{IsInOrder, Rises}

-- the number of the answer at a place
abbrev pub num : List Done → ℕ → Done → ℕ
num ds i d = (slice_index_or ds i d).number

split : (i k : ℕ) → (i < k) ⊎ (k ≤ i)
split i zero = inr (omega arith)
split zero (suc k) = inl (omega arith)
split (suc i) (suc k) = ⊎_elim (λ (h : i < k). inl (omega arith)) (λ (h : k ≤ i). inr (omega arith)) (split i k)

-- within a list the default does not matter
pub default : {X : Type 0} (xs : List X) (k : ℕ) (d e : X) → k < length xs → slice_index_or xs k d ≡ slice_index_or xs k e
default [] k d e lt = absurd (omega arith)
default (x ∷ xs) zero d e lt = refl
default (x ∷ xs) (suc k) d e lt = default xs k d e (omega arith)

pub at_any : {X : Type 0} (xs : List X) (k : ℕ) (x : X) → k < length xs → x ≡ slice_index_or xs k x → (d : X) → slice_index_or xs k d ≡ x
at_any xs k x lt is d = default xs k d x lt ∙ sym is

-- an answer that has the task of the job with its number is that of a job of the plan
pub of_plan : (jobs : List PlannedJob) (x : Done) (job : PlannedJob) → 0 < x.number → x.number ≤ length jobs → job ≡ slice_index_or jobs (x.number - 1) job → x.task ≡ job.task → IsOfPlan jobs x
of_plan jobs x job some le is same = (
  some,
  le,
  λ k other e. let f : x.number - 1 ≡ k = omega arith in
      same ∙ (ap (λ (job : PlannedJob). job.task) (sym (at_any jobs (x.number - 1) job (omega arith) is other)) ∙ ap (λ n. (slice_index_or jobs n other).task) f),
)

-- and no other is
pub not_of_plan : (jobs : List PlannedJob) (x : Done) (job : PlannedJob) → 0 < x.number → job ≡ slice_index_or jobs (x.number - 1) job → x.task ≢ job.task → IsOfPlan jobs x → ⊥
not_of_plan jobs x job some is ne of = ne (of.2 (x.number - 1) job (omega arith) ∙ ap (λ (job : PlannedJob). job.task) (sym is))

-- ---- how often a number stands among the first answers

pub times_yes : (ds : List Done) (i j : ℕ) (d : Done) → i < length ds → num ds i d ≡ j → times j (take (i + 1) ds) ≡ times j (take i ds) + 1
times_yes ds i j d lt e = count_by_more_yes (λ (d : Done). d.number == j) ds i d lt (eq-eqb (num ds i d) j e)

pub times_no : (ds : List Done) (i j : ℕ) (d : Done) → i < length ds → num ds i d ≢ j → times j (take (i + 1) ds) ≡ times j (take i ds)
times_no ds i j d lt ne = count_by_more_no (λ (d : Done). d.number == j) ds i d lt (ne_eqb (num ds i d) j ne)

pub times_part : (ds : List Done) (i j : ℕ) → times j (take i ds) ≤ times j ds
times_part ds i j = sum_by-take-le _ ds i

pub times_whole : (ds : List Done) (i j : ℕ) → length ds ≤ i → times j (take i ds) ≡ times j ds
times_whole ds i j le = ap (times j) (take_all i ds le)

-- a number that stands at none of the places from i on stands among the first i only
times_beyond : (ds : List Done) (i j m : ℕ) (d : Done) → ((k : ℕ) → i ≤ k → k < length ds → num ds k d ≢ j) → i + m ≤ length ds → times j (take (i + m) ds) ≡ times j (take i ds)
times_beyond ds i j zero d not le = let e : i + 0 ≡ i = omega arith in ap (λ n. times j (take n ds)) e
times_beyond ds i j (suc m) d not le =
    let e : i + suc m ≡ i + m + 1 = omega arith in
    ap (λ n. times j (take n ds)) e ∙ (times_no ds (i + m) j d (omega arith) (not (i + m) (omega arith) (omega arith)) ∙ times_beyond ds i j m d not (omega arith))

pub times_front : (ds : List Done) (i j : ℕ) (d : Done) → ((k : ℕ) → i ≤ k → k < length ds → num ds k d ≢ j) → i ≤ length ds → times j ds ≡ times j (take i ds)
times_front ds i j d not le =
    let e : i + (length ds - i) ≡ length ds = omega arith in
    sym (times_whole ds (i + (length ds - i)) j (omega arith)) ∙ times_beyond ds i j (length ds - i) d not (omega arith)

-- ---- the same answers in another order

sound_in : (jobs : List PlannedJob) (xs ys : List Done) (j : ℕ) → IsPermutation xs ys → IsSound jobs xs j → IsSound jobs ys j
sound_in jobs xs ys j p h = (
  let e = sum_by-IsPermutation (λ (d : Done). cond (d.number == j) 1 0) xs ys p in let l = h.0 in omega (arith, e, l),
  All-permutation (λ (d : Done). d.number ≡ j → IsOfPlan jobs d) xs ys p h.1,
)

-- ---- the first n answers, which are sound and rise to the number `last`

abbrev pub Seen : List PlannedJob → List Done → ℕ → ℕ → Type 0
Seen jobs ds n last =
    ((i : ℕ) (d : Done) → i < n → IsOfPlan jobs (slice_index_or ds i d))
    × ((i : ℕ) (d : Done) → i + 1 < n → num ds i d < num ds (i + 1) d)
    × ((d : Done) → 0 < n → num ds (n - 1) d ≡ last)
    × (n ≡ 0 → last ≡ 0)
    × ((j : ℕ) → times j (take n ds) ≤ 1)
    × ((j : ℕ) → last < j → times j (take n ds) ≡ 0)
    × (0 < last → times last (take n ds) ≡ 1)

plan_more : (jobs : List PlannedJob) (ds : List Done) (n : ℕ) (x : Done) → ((d : Done) → slice_index_or ds n d ≡ x) → ((i : ℕ) (d : Done) → i < n → IsOfPlan jobs (slice_index_or ds i d)) → IsOfPlan jobs x → (i : ℕ) (d : Done) → i < n + 1 → IsOfPlan jobs (slice_index_or ds i d)
plan_more jobs ds n x is all of i d lt = dite (ℕ_discrete i n)
    (λ e. subst (IsOfPlan jobs) (sym (ap (λ k. slice_index_or ds k d) e ∙ is d)) of)
    (λ ne. all i d (omega arith))

rise_more : (ds : List Done) (n last : ℕ) (x : Done) → ((d : Done) → slice_index_or ds n d ≡ x) → ((i : ℕ) (d : Done) → i + 1 < n → num ds i d < num ds (i + 1) d) → ((d : Done) → 0 < n → num ds (n - 1) d ≡ last) → last < x.number → (i : ℕ) (d : Done) → i + 1 < n + 1 → num ds i d < num ds (i + 1) d
rise_more ds n last x is rise end lt i d at = dite (ℕ_discrete (i + 1) n)
    (λ e. let a = ap (λ k. num ds k d) e in let b = ap (λ (d : Done). d.number) (is d) in let f : i ≡ n - 1 = omega arith in let g = ap (λ k. num ds k d) f in let h = end d (omega arith) in omega arith)
    (λ ne. rise i d (omega arith))

times_at : (ds : List Done) (n last : ℕ) (x : Done) → ((d : Done) → slice_index_or ds n d ≡ x) → n < length ds → ((j : ℕ) → last < j → times j (take n ds) ≡ 0) → last < x.number → times x.number (take (n + 1) ds) ≡ 1
times_at ds n last x is lt none up = let a = times_yes ds n x.number x lt (ap (λ (d : Done). d.number) (is x)) in let b = none x.number up in omega arith

times_other : (ds : List Done) (n j : ℕ) (x : Done) → ((d : Done) → slice_index_or ds n d ≡ x) → n < length ds → j ≢ x.number → times j (take (n + 1) ds) ≡ times j (take n ds)
times_other ds n j x is lt ne = times_no ds n j x lt (λ e. ne (sym e ∙ ap (λ (d : Done). d.number) (is x)))

pub seen_more : (jobs : List PlannedJob) (ds : List Done) (n last : ℕ) (x : Done) → ((d : Done) → slice_index_or ds n d ≡ x) → n < length ds → Seen jobs ds n last → last < x.number → IsOfPlan jobs x → Seen jobs ds (n + 1) x.number
seen_more jobs ds n last x is lt seen up of = (
  plan_more jobs ds n x is seen.0 of,
  rise_more ds n last x is seen.1 seen.2 up,
  (λ d some. let e : n + 1 - 1 ≡ n = omega arith in ap (λ k. num ds k d) e ∙ ap (λ (d : Done). d.number) (is d)),
  (λ e. absurd (omega arith)),
  (λ j. dite (ℕ_discrete j x.number)
      (λ e. let a = times_at ds n last x is lt seen.5 up in let b = ap (λ k. times k (take (n + 1) ds)) e in omega arith)
      (λ ne. let a = times_other ds n j x is lt ne in let b = seen.4 j in omega arith)),
  (λ j over. times_other ds n j x is lt (λ e. let f : ⊥ = omega arith in f) ∙ seen.5 j (omega arith)),
  (λ some. times_at ds n last x is lt seen.5 up),
)

-- ---- all answers seen

pub seen_all : (jobs : List PlannedJob) (ds : List Done) (n last : ℕ) → length ds ≤ n → n ≤ length ds → Seen jobs ds n last → Rises jobs ds
seen_all jobs ds n last le ge seen = (
  (λ j. (let a = seen.4 j in let b = times_whole ds n j le in omega arith, λ i d lt e. seen.0 i d (omega arith))),
  (λ i d lt. seen.0 i d (omega arith)),
  (λ i d lt. seen.1 i d (omega arith)),
)

-- ---- an answer too many

-- numbers below that of the next answer are sound
sound_below : (jobs : List PlannedJob) (ds : List Done) (n last : ℕ) (x : Done) → ((d : Done) → slice_index_or ds n d ≡ x) → n < length ds → IsInOrder ds → Seen jobs ds n last → (j : ℕ) → j < x.number → IsSound jobs ds j
sound_below jobs ds n last x is lt order seen j below = (
  let e = times_front ds n j x (λ k le at f. let o = order n k x le at in let g = ap (λ (d : Done). d.number) (is x) in let no : ⊥ = omega arith in no) (omega arith) in
      let a = seen.4 j in omega arith,
  λ i d at e. ⊎_elim (λ (h : i < n). seen.0 i d h)
      (λ (h : n ≤ i). let o = order n i d h at in let g = ap (λ (d : Done). d.number) (is d) in absurd (omega arith)) (split i n),
)

pub doubled_stray : (jobs : List PlannedJob) (ds : List Done) (n last : ℕ) (x : Done) → ((d : Done) → slice_index_or ds n d ≡ x) → n < length ds → IsInOrder ds → Seen jobs ds n last → (IsOfPlan jobs x → ⊥) → IsDoubled jobs ds x.number
doubled_stray jobs ds n last x is lt order seen not = (
  λ sound. not (subst (IsOfPlan jobs) (is x) (sound.1 n x lt (ap (λ (d : Done). d.number) (is x)))),
  sound_below jobs ds n last x is lt order seen,
)

pub doubled_again : (jobs : List PlannedJob) (ds : List Done) (n last : ℕ) (x : Done) → ((d : Done) → slice_index_or ds n d ≡ x) → n < length ds → IsInOrder ds → Seen jobs ds n last → x.number ≤ last → IsDoubled jobs ds x.number
doubled_again jobs ds n last x is lt order seen le = dite (ℕ_discrete last 0)
    (λ e. doubled_stray jobs ds n last x is lt order seen (λ of. let p = of.0 in let f : ⊥ = omega arith in f))
    (λ ne. (
      λ sound. dite (ℕ_discrete n 0) (λ e. let z = seen.3 e in let f : ⊥ = omega arith in f) (λ some.
          let end = seen.2 x (omega arith) in
          let o = order (n - 1) n x (omega arith) lt in
          let g = ap (λ (d : Done). d.number) (is x) in
          let same : last ≡ x.number = omega arith in
          let a = times_yes ds n last x lt (g ∙ sym same) in
          let b = seen.6 (omega arith) in
          let p = times_part ds (n + 1) last in
          let q = ap (λ j. times j ds) same in
          let s = sound.0 in
          let f : ⊥ = omega arith in f),
      sound_below jobs ds n last x is lt order seen,
    ))

-- ---- a job without an answer

above : (ds : List Done) (k i : ℕ) (d : Done) → ((i : ℕ) (d : Done) → i + 1 < length ds → num ds i d < num ds (i + 1) d) → k ≤ i → i < length ds → num ds k d ≤ num ds i d
above ds k zero d rise le lt = let e : k ≡ 0 = omega arith in let h = ap (λ j. num ds j d) e in omega arith
above ds k (suc i) d rise le lt = dite (ℕ_discrete k (suc i))
    (λ e. let h = ap (λ j. num ds j d) e in omega arith)
    (λ ne. let h = above ds k i d rise (omega arith) (omega arith) in let r = rise i d (omega arith) in
    let s : i + 1 ≡ suc i = omega arith in let t = ap (λ j. num ds j d) s in omega arith)

-- the numbers at the first k places are 1 to k
abbrev pub Filled : List Done → ℕ → Type 0
Filled ds k = (j : ℕ) (d : Done) → j < k → num ds j d ≡ j + 1

least : (jobs : List PlannedJob) (ds : List Done) (k : ℕ) (d : Done) → Rises jobs ds → Filled ds k → k < length ds → k + 1 ≤ num ds k d
least jobs ds zero d r low lt = let h = (r.1 0 d lt).0 in omega arith
least jobs ds (suc k) d r low lt =
    let h = r.2 k d (omega arith) in let l = low k d (omega arith) in let s : k + 1 ≡ suc k = omega arith in let t = ap (λ j. num ds j d) s in omega arith

lacks : (jobs : List PlannedJob) (ds : List Done) (k : ℕ) → Rises jobs ds → Filled ds k → ((d : Done) → k < length ds → num ds k d ≢ k + 1) → (i : ℕ) (d : Done) → i < length ds → num ds i d ≢ k + 1
lacks jobs ds k r low not i d lt e = dite (ℕ_discrete i k)
    (λ same. not d (let l = lt in omega arith) (ap (λ j. num ds j d) (sym same) ∙ e))
    (λ ne. ⊎_elim (λ (below : i < k). let l = low i d below in let f : ⊥ = omega arith in f)
    (λ (over : k ≤ i). let a = above ds k i d r.2 over lt in let m = least jobs ds k d r low (omega arith) in not d (omega arith) (omega arith)) (split i k))

filled_once : (jobs : List PlannedJob) (ds : List Done) (k j : ℕ) (d : Done) → Rises jobs ds → Filled ds k → k ≤ length ds → j < k → times (j + 1) ds ≡ 1
filled_once jobs ds k j d r low le lt =
    let a = times_yes ds j (j + 1) d (omega arith) (low j d lt) in
    let b = times_part ds (j + 1) (j + 1) in
    let s = (r.0 (j + 1)).0 in
    omega arith

first_of_some : (ds : List Done) → 0 < length ds → Done
first_of_some [] lt = absurd (omega arith)
first_of_some (d ∷ ds) lt = d

none_left : (ds : List Done) (j : ℕ) → ((i : ℕ) (d : Done) → i < length ds → num ds i d ≢ j) → times j ds ≡ 0
none_left ds j not = ⊎_elim
    (λ (some : 0 < length ds). let d = first_of_some ds some in times_front ds 0 j d (λ k le lt. not k d lt) (omega arith))
    (λ (none : length ds ≤ 0). sym (times_whole ds 0 j none)) (split 0 (length ds))

pub missing_at : (jobs : List PlannedJob) (ds : List Done) (k : ℕ) → Rises jobs ds → Filled ds k → k ≤ length ds → k < length jobs → ((d : Done) → k < length ds → num ds k d ≢ k + 1) → IsMissing jobs ds (k + 1)
missing_at jobs ds k r low le lt not = (
  r.0,
  omega arith,
  omega arith,
  none_left ds (k + 1) (lacks jobs ds k r low not),
  λ j some less.
      let d = first_of_some ds (omega arith) in
      let e : j - 1 + 1 ≡ j = omega arith in
      let h = filled_once jobs ds k (j - 1) d r low le (omega arith) in
      let g = ap (λ n. times n ds) e in
      omega arith,
)

-- ---- an answer to each job

-- there are no more than the plan has jobs
no_more : (jobs : List PlannedJob) (ds : List Done) (d : Done) → Rises jobs ds → Filled ds (length jobs) → length jobs < length ds → ⊥
no_more jobs ds d r low lt = let m = least jobs ds (length jobs) d r low lt in let p = (r.1 (length jobs) d lt).1 in omega arith

pub outcome : (jobs : List PlannedJob) (ds : List Done) → Rises jobs ds → length jobs ≤ length ds → Filled ds (length jobs) → IsOutcome jobs ds
outcome jobs ds r le low = (
  dite (ℕ_discrete (length ds) (length jobs)) (λ e. e) (λ ne. absurd (no_more jobs ds (first_of_some ds (omega arith)) r low (omega arith))),
  λ k job d lt.
      let h = low k d lt in let p = r.1 k d (omega arith) in
      let task = p.2 k job h in
      (h, (slice_index_or ds k d).kept ∙ ap value_of task, task),
)

-- ---- faults of the same answers in another order

pub doubled_in : (jobs : List PlannedJob) (xs ys : List Done) (j : ℕ) → IsPermutation xs ys → IsDoubled jobs ys j → IsDoubled jobs xs j
doubled_in jobs xs ys j p h = (
  λ sound. h.0 (sound_in jobs xs ys j p sound),
  λ less lt. sound_in jobs ys xs less (IsPermutation-sym xs ys p) (h.1 less lt),
)

pub missing_in : (jobs : List PlannedJob) (xs ys : List Done) (j : ℕ) → IsPermutation xs ys → IsMissing jobs ys j → IsMissing jobs xs j
missing_in jobs xs ys j p h = (
  λ each. sound_in jobs ys xs each (IsPermutation-sym xs ys p) (h.0 each),
  h.1,
  h.2,
  sym (same_times j) ∙ h.3,
  λ less some lt. sym (same_times less) ∙ h.4 less some lt,
) where
  same_times : (j : ℕ) → times j ys ≡ times j xs
  same_times j = sum_by-IsPermutation (λ (d : Done). cond (d.number == j) 1 0) xs ys p
