use Rattle.std.proofs.Common.{ℕ, ◌-◌, ◌/◌, ◌%◌, List, length, refl, ◌∙◌, arith}
use Rattle.market_types.specs.declared.row.Row.{Row}
use Rattle.wide_rows.specs.Joined.{joined_below}
use Rattle.wide_rows.specs.Shelves.{leaf_at}
use Rattle.wide_rows.specs.Storeys.{block_rows}
use Rattle.wide_rows.proofs.LeavesPassed.{last_leaf, last_block}
use Rattle.wide_rows.proofs.Passing.{due_here, past_here}
use Rattle.wide_rows.proofs.WalkCounted.{bits-self}
use Rattle.wide_rows.proofs.spans.pass.Goals as goal

pub loop-left-preserved-then-due-demand : goal.loop-left-preserved-then-due-demand
loop-left-preserved-then-due-demand c =
    let r : ℕ → List Row = leaf_at c.args.leaves.now.items in
    let n = c.loop-left.left in
    let last = last_block c.args.storeys.now r (length c.args.leaves.now.items) c.requires.indexed n (omega arith) (omega (arith, c.loop-left.invariant.within, c.requires.within)) (omega (arith, c.if-left-eq0.true)) in
    record {
      within = omega (arith, c.loop-left.invariant.within);
      low = omega (arith, c.if-due-demand.true, c.requires.small);
      passed = past_here c.args.workers c.args.demand (joined_below r c.args.left.now) (joined_below r n) (block_rows r (n / 16 - 1)) (joined_below r (n - 16)) c.args.carry.now c.loop-left.carry c.from.result _
          c.loop-left.invariant.passed last.rows_are (c.from.ensures ∙ c.sum-sum.ensures ∙ last.asks) refl c.if-due-demand.true;
      none = c.loop-left.invariant.none;
    }

pub returns-then-due-demand-2-clause-due : goal.returns-then-due-demand-2-clause-due
returns-then-due-demand-2-clause-due c =
    let r : ℕ → List Row = leaf_at c.args.leaves.now.items in
    let n = c.loop-left.left in
    let last = last_leaf c.args.storeys.now r (length c.args.leaves.now.items) c.requires.indexed n (omega arith) (omega (arith, c.loop-left.invariant.within, c.requires.within)) in
    due_here c.args.workers c.args.demand (joined_below r c.args.left.now) (joined_below r n) (r (n - 1)) (joined_below r (n - 1)) c.args.carry.now c.loop-left.carry c.from-in-loop-left.result _
    c.loop-left.invariant.passed last.rows_are (c.from-in-loop-left.ensures ∙ c.sum-sum-in-loop-left.ensures ∙ last.asks) refl (omega (arith, c.if-due-demand-2.true))

pub loop-left-preserved : goal.loop-left-preserved
loop-left-preserved c =
    let r : ℕ → List Row = leaf_at c.args.leaves.now.items in
    let n = c.loop-left.left in
    let last = last_leaf c.args.storeys.now r (length c.args.leaves.now.items) c.requires.indexed n (omega arith) (omega (arith, c.loop-left.invariant.within, c.requires.within)) in
    record {
      within = omega (arith, c.loop-left.invariant.within);
      low = omega (arith, c.if-due-demand-2.false, c.requires.small);
      passed = past_here c.args.workers c.args.demand (joined_below r c.args.left.now) (joined_below r n) (r (n - 1)) (joined_below r (n - 1)) c.args.carry.now c.loop-left.carry c.from-in-loop-left.result _
          c.loop-left.invariant.passed last.rows_are (c.from-in-loop-left.ensures ∙ c.sum-sum-in-loop-left.ensures ∙ last.asks) refl (omega (arith, c.if-due-demand-2.false));
      none = c.loop-left.invariant.none;
    }

pub returns-clause-most : goal.returns-clause-most
returns-clause-most c =
    omega (
      arith,
      c.loop-left.invariant.none,
      c.pass_over.ensures.counted,
      c.pass_over-2.ensures.counted,
      bits-self (c.args.left.now % 16) (omega arith),
      bits-self (c.args.left.now / 16) (omega (arith, c.requires.within, c.requires.indexed.room)),
    )
