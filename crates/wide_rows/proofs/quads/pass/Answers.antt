use Rattle.std.proofs.Common.{◌-◌, refl, arith}
use Rattle.wide_rows.specs.Passed.{quad_rows, rows_of_quads}
use Rattle.wide_rows.proofs.Passing.{last_of_quads, due_here, past_here, quad_sum_asks}
use Rattle.wide_rows.proofs.quads.pass.Goals as goal

pub returns-then-due-demand-clause-due : goal.returns-then-due-demand-clause-due
returns-then-due-demand-clause-due c =
    let a = c.args.columns.now in
    let q = c.loop-left.left in
    let last = last_of_quads a c.args.sums.now c.args.left.now q c.requires.quads (omega arith) c.loop-left.invariant.within in
    due_here c.args.workers c.args.demand (rows_of_quads a c.args.left.now) (rows_of_quads a q) (quad_rows a (q - 1)) (rows_of_quads a (q - 1)) c.args.carry.now c.loop-left.carry c.from.result _
    c.loop-left.invariant.passed last.rows_are (omega (arith, c.from.ensures, last.asks)) refl (omega arith)

pub loop-left-preserved : goal.loop-left-preserved
loop-left-preserved c =
    let a = c.args.columns.now in
    let q = c.loop-left.left in
    let last = last_of_quads a c.args.sums.now c.args.left.now q c.requires.quads (omega arith) c.loop-left.invariant.within in
    record {
      within = omega (arith, c.loop-left.invariant.within);
      low = omega arith;
      passed = past_here c.args.workers c.args.demand (rows_of_quads a c.args.left.now) (rows_of_quads a q) (quad_rows a (q - 1)) (rows_of_quads a (q - 1)) c.args.carry.now c.loop-left.carry c.from.result _
          c.loop-left.invariant.passed last.rows_are (omega (arith, c.from.ensures, last.asks)) refl (omega arith);
      none = c.loop-left.invariant.none;
    }

pub pass_over-requires : goal.pass_over-requires
pass_over-requires c = record { few = omega (arith, c.requires.quads.some, c.requires.quads.tidy.room); room = omega (arith, c.loop-left.invariant.none, c.requires.room) }

pub returns-then-due-demand-clause-counted : goal.returns-then-due-demand-clause-counted
returns-then-due-demand-clause-counted c = omega (arith, c.pass_over.ensures.counted, c.loop-left.invariant.none)

pub pass_over-requires-2 : goal.pass_over-requires-2
pass_over-requires-2 c = record { few = omega (arith, c.requires.quads.some, c.requires.quads.tidy.room); room = omega (arith, c.loop-left.invariant.none, c.requires.room) }

pub returns-clause-counted_all : goal.returns-clause-counted_all
returns-clause-counted_all c = omega (arith, c.pass_over-2.ensures.counted, c.loop-left.invariant.none)

pub returns-then-due-demand-clause-asked : goal.returns-then-due-demand-clause-asked
returns-then-due-demand-clause-asked c = quad_sum_asks c.args.columns.now c.args.sums.now c.args.left.now (c.loop-left.left - 1) c.requires.quads (omega (arith, c.loop-left.invariant.within))
