-- Which arenas have a job.
use Rattle.std.proofs.Common.{◌≡◌, ◌≤◌, ℕ, true, List, [], ◌∷◌, arith, inl, inr, eqb}
use Rattle.std.specs.List.{All}
use Rattle.std.proofs.lemmas.Bool.{cases_Bool, eqb-true}
use Rattle.std.proofs.lemmas.List.Elements.{All-head, All-tail}
use Rattle.plan_jobs.specs.declared.task.PlannedJob.{PlannedJob}
use Rattle.drive_plan.specs.Plans.{FitsJob}
use Rattle.market_drive.specs.Servable.{has_job}

-- an arena that has a job is one of the plan's
pub has_job-among : (arenas a : ℕ) (jobs : List PlannedJob) → All (FitsJob arenas) jobs → has_job jobs a ≡ true → (1 ≤ a) × (a ≤ arenas)
has_job-among arenas a [] h e = cc
has_job-among arenas a (job ∷ jobs) h e =
    elim (cases_Bool (eqb job.arena a)) [
      | inl t ↦
          let fits : FitsJob arenas job = All-head (FitsJob arenas) job jobs h in
          let same : job.arena ≡ a = eqb-true job.arena a t in
          (omega (arith, fits.0, same), omega (arith, fits.1, same))
      | inr f ↦ has_job-among arenas a jobs (All-tail (FitsJob arenas) job jobs h) (rw f at e)
    ]
