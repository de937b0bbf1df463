use Rattle.std.proofs.Common.{◌∙◌, ◌≤◌, length, ap, arith}
use Rattle.plan_jobs.specs.declared.task.Done.{Done}
use Rattle.plan_jobs.proofs.Order.{default, missing_at, outcome}
use Rattle.plan_jobs.proofs.gather.first_missing.Goals as goal
use Rattle.plan_jobs.proofs.gather.first_missing.Goals.{then-place-sorted-via-then-place-sorted, then-place-sorted-via-else-place-sorted+then-sorted-place}

pub returns-then-place-sorted-clause-missing : goal.returns-then-place-sorted-clause-missing
returns-then-place-sorted-clause-missing c =
    let k = c.loop-place.place in
    let i = c.loop-place.invariant in
    let ds = c.args.sorted.now in
    elim c.then-place-sorted.branch [
      | then-place-sorted-via-then-place-sorted w ↦ missing_at c.args.jobs.now ds k c.requires.rises i.1 i.0 c.loop-place-test.true (λ d lt. absurd (omega (arith, w.if-place-sorted.true, lt)))
      | then-place-sorted-via-else-place-sorted+then-sorted-place w ↦ missing_at c.args.jobs.now ds k c.requires.rises i.1 i.0 c.loop-place-test.true (λ d lt e. w.if-sorted-place.true (ap (λ (x : Done). x.number) (default ds k w.index-sorted-place.result d lt) ∙ e))
    ]

pub returns-clause-none : goal.returns-clause-none
returns-clause-none c =
    let i = c.loop-place.invariant in
    let t = c.loop-place-test.false in
    let le : length c.args.jobs.now ≤ length c.args.sorted.now = omega (arith, i.0, t) in
    outcome c.args.jobs.now c.args.sorted.now c.requires.rises le (λ j d lt. i.1 j d (omega arith))
