use Rattle.std.proofs.Common.{rules, subst, sym}
use Rattle.std.proofs.lemmas.List.Sorted.{IsNonDecreasingBy-from_sort_by_key}
use Rattle.plan_jobs.specs.declared.task.Done.{Done}
use Rattle.plan_jobs.specs.Outcome.{IsDoubled, IsMissing, IsOutcome}
use Rattle.plan_jobs.specs.Gathering.{IsInOrder, Rises}
use Rattle.plan_jobs.proofs.Order.{doubled_in, missing_in}
use Rattle.plan_jobs.proofs.gather.outcome_of.Goals as goal

pub first_doubled-requires-clause-in_order : goal.first_doubled-requires-clause-in_order
first_doubled-requires-clause-in_order c =
    subst IsInOrder (sym c.as_slice.ensures.value)
    (IsNonDecreasingBy-from_sort_by_key (λ (d : Done). d.number) _ c.sort_unstable_by_key.ensures.sorted (λ a r q k. search rules))

pub returns-in-Some-clause-fault : goal.returns-in-Some-clause-fault
returns-in-Some-clause-fault c =
    doubled_in c.args.jobs.now c.args.done.items c.sort_unstable_by_key.new.self.items c.in-Some.number c.sort_unstable_by_key.ensures.permutation
    (subst (λ ds. IsDoubled c.args.jobs.now ds c.in-Some.number) c.as_slice.ensures.value c.in-Some.ensures.doubled)

pub first_missing-requires-clause-rises : goal.first_missing-requires-clause-rises
first_missing-requires-clause-rises c =
    subst (Rises c.args.jobs.now) (sym c.as_slice-2.ensures.value) (subst (Rises c.args.jobs.now) c.as_slice.ensures.value c.in_default.ensures.rises)

pub returns-in-Some-first_missing-clause-fault : goal.returns-in-Some-first_missing-clause-fault
returns-in-Some-first_missing-clause-fault c =
    missing_in c.args.jobs.now c.args.done.items c.sort_unstable_by_key.new.self.items c.in-Some-first_missing.number c.sort_unstable_by_key.ensures.permutation
    (subst (λ ds. IsMissing c.args.jobs.now ds c.in-Some-first_missing.number) c.as_slice-2.ensures.value c.in-Some-first_missing.ensures.missing)

pub returns-clause-outcome : goal.returns-clause-outcome
returns-clause-outcome c = subst (IsOutcome c.args.jobs.now) c.as_slice-2.ensures.value c.in_default-first_missing.ensures.none
