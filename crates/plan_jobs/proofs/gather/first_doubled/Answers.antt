use Rattle.std.proofs.Common.{rules, ◌≡◌, ◌≢◌, ◌<◌, arith}
use Rattle.plan_jobs.proofs.Order.{at_any, of_plan, not_of_plan, seen_more, seen_all, doubled_stray, doubled_again}
use Rattle.plan_jobs.proofs.gather.first_doubled.Goals as goal
use Rattle.plan_jobs.proofs.gather.first_doubled.Goals.{then-done-last-via-then-done-last, then-done-last-via-else-done-last+then-done-jobs}

pub returns-then-done-last-clause-doubled : goal.returns-then-done-last-clause-doubled
returns-then-done-last-clause-doubled c =
    let x = c.done-item.result in
    let is = at_any c.args.sorted.now c.loop-done.done-index x c.loop-done-test.true c.done-item.is in
    elim c.then-done-last.branch [
      | then-done-last-via-then-done-last w ↦ doubled_again c.args.jobs.now c.args.sorted.now c.loop-done.done-index c.loop-done.last x is c.loop-done-test.true c.requires.in_order c.loop-done.invariant w.if-done-last.true
      | then-done-last-via-else-done-last+then-done-jobs w ↦ doubled_stray c.args.jobs.now c.args.sorted.now c.loop-done.done-index c.loop-done.last x is c.loop-done-test.true c.requires.in_order c.loop-done.invariant (λ of. let p = of.1 in let q = w.if-done-jobs.true in let f : ⊥ = omega arith in f)
    ]

pub returns-then-ne-clause-doubled : goal.returns-then-ne-clause-doubled
returns-then-ne-clause-doubled c =
    let x = c.done-item.result in
    let is = at_any c.args.sorted.now c.loop-done.done-index x c.loop-done-test.true c.done-item.is in
    let ne : x.task ≢ c.index-jobs-done.result.task = search rules in
    let some : 0 < x.number = omega (arith, c.if-done-last.false) in
    doubled_stray c.args.jobs.now c.args.sorted.now c.loop-done.done-index c.loop-done.last x is c.loop-done-test.true c.requires.in_order c.loop-done.invariant
    (not_of_plan c.args.jobs.now x c.index-jobs-done.result some c.index-jobs-done.is ne)

pub loop-done-preserved : goal.loop-done-preserved
loop-done-preserved c =
    let x = c.done-item.result in
    let is = at_any c.args.sorted.now c.loop-done.done-index x c.loop-done-test.true c.done-item.is in
    let same : x.task ≡ c.index-jobs-done.result.task = search rules in
    let up : c.loop-done.last < x.number = omega (arith, c.if-done-last.false) in
    let some : 0 < x.number = omega (arith, up) in
    seen_more c.args.jobs.now c.args.sorted.now c.loop-done.done-index c.loop-done.last x is c.loop-done-test.true c.loop-done.invariant up
    (of_plan c.args.jobs.now x c.index-jobs-done.result some c.if-done-jobs.false c.index-jobs-done.is same)

pub returns-clause-rises : goal.returns-clause-rises
returns-clause-rises c = seen_all c.args.jobs.now c.args.sorted.now c.loop-done.done-index c.loop-done.last c.loop-done-test.false (c.loop-done.auto.done-index-end) c.loop-done.invariant
