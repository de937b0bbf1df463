use Rattle.std.proofs.Common.{arith}
use Rattle.plan_jobs.proofs.Sums.{digits_sum_step, digits_sum_digit, digits_sum_small}
use Rattle.plan_jobs.proofs.task.digits_sum.Goals as goal

pub overflow_add-sum : goal.overflow_add-sum
overflow_add-sum c =
    let i = c.loop-rest.invariant in
    let s = digits_sum_step c.loop-rest.rest (omega arith) (omega arith) in
    let m = digits_sum_small c.args.number (omega arith) in
    omega arith

pub loop-rest-preserved : goal.loop-rest-preserved
loop-rest-preserved c =
    let i = c.loop-rest.invariant in
    let s = digits_sum_step c.loop-rest.rest (omega arith) (omega arith) in
    omega arith

pub overflow_add-result : goal.overflow_add-result
overflow_add-result c =
    let i = c.loop-rest.invariant in
    let s = digits_sum_digit c.loop-rest.rest (omega arith) in
    let m = digits_sum_small c.args.number (omega arith) in
    omega arith

pub returns : goal.returns
returns c =
    let i = c.loop-rest.invariant in
    let s = digits_sum_digit c.loop-rest.rest (omega arith) in
    omega arith
