-- What is written of answers is the outcome of their plan.
use Rattle.std.proofs.Common.{◌≡◌, ℕ, suc, ◌+◌, ◌<◌, List, [], ◌∷◌, ◌++◌, length, slice_index_or, refl, ap, ap₂, ◌∙◌, arith}
use Rattle.plan_jobs.specs.declared.task.PlannedJob.{PlannedJob}
use Rattle.plan_jobs.specs.declared.task.Done.{Done}
use Rattle.plan_jobs.specs.Values.{value_of}
use Rattle.plan_jobs.specs.Outcome.{IsOutcome}
use Rattle.market_prog.specs.DriveTexts.{answer_lines, job_line, outcome_lines}

-- answers with the jobs' values, the first of which has this number
lines-are : (n : ℕ) (jobs : List PlannedJob) (ds : List Done) → length ds ≡ length jobs
    → ((k : ℕ) (job : PlannedJob) (d : Done) → k < length jobs → ((slice_index_or ds k d).number ≡ k + n) × ((slice_index_or ds k d).value ≡ value_of (slice_index_or jobs k job).task))
    → answer_lines ds ≡ outcome_lines n jobs
lines-are n [] [] e h = refl
lines-are n [] (d ∷ ds) e h = cc
lines-are n (job ∷ jobs) [] e h = cc
lines-are n (job ∷ jobs) (d ∷ ds) e h =
    let here = h 0 job d (omega arith) in
    let first : d.number ≡ 0 + n = here.0 in
    let number : d.number ≡ n = omega (arith, first) in
    let rest = lines-are (n + 1) jobs ds (omega (arith, e)) (λ k j x lt. let there = h (suc k) j x (omega arith) in (omega (arith, there.0), there.1)) in
    ap₂ (λ (x y : ℕ). job_line x y ++ answer_lines ds) number here.1 ∙ ap (λ (t : List ℕ). job_line n (value_of job.task) ++ t) rest

pub outcome-written : (jobs : List PlannedJob) (ds : List Done) → IsOutcome jobs ds → answer_lines ds ≡ outcome_lines 1 jobs
outcome-written jobs ds h = lines-are 1 jobs ds h.0 (λ k job d lt. let at = h.1 k job d lt in (at.0, at.1))
