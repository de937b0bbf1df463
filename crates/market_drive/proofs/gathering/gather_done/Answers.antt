use Rattle.std.proofs.Common.{◌∙◌, sym, subst, List}
use Rattle.plan_jobs.specs.Gathering.{IsGatherFault}
use Rattle.plan_jobs.specs.Outcome.{IsDoubled, IsMissing, IsOutcome}
use Rattle.plan_jobs.specs.declared.task.PlannedJob.{PlannedJob}
use Rattle.market_drive.proofs.gathering.gather_done.Goals as goal

pub returns-in-Ok-clause-outcome : goal.returns-in-Ok-clause-outcome
returns-in-Ok-clause-outcome c = subst (λ (jobs : List PlannedJob). IsOutcome jobs c.in-Ok.gathered.items) c.jobs.ensures.exact c.in-Ok.ensures.outcome

pub returns-in-Err-Doubled-clause-fault : goal.returns-in-Err-Doubled-clause-fault
returns-in-Err-Doubled-clause-fault c = (
  sym c.end_fault.ensures.exact ∙ c.in_default.is,
  subst (λ (jobs : List PlannedJob). IsDoubled jobs c.args.done.items c.in-Err-Doubled.number) c.jobs.ensures.exact
      (subst (IsGatherFault c.jobs.result.now c.args.done.items) c.in-Err-Doubled.field-0-is c.in-Err-Doubled.ensures.fault),
)

pub returns-in-Err-Missing-clause-fault : goal.returns-in-Err-Missing-clause-fault
returns-in-Err-Missing-clause-fault c = (
  sym c.end_fault.ensures.exact ∙ c.in_default.is,
  subst (λ (jobs : List PlannedJob). IsMissing jobs c.args.done.items c.in-Err-Missing.number) c.jobs.ensures.exact
      (subst (IsGatherFault c.jobs.result.now c.args.done.items) c.in-Err-Missing.field-0-is c.in-Err-Missing.ensures.fault),
)
