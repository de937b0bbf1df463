use Rattle.std.proofs.Common.{arith, ◌∙◌, sym, ap, ◌++◌}
use Rattle.prefix_tree.proofs.Joins.{sums}
use Rattle.prefix_tree.proofs.Moves.{small_left, small_right, take_left, take_right, take_here, take_left_rows, take_right_rows, take_here_rows, take_end_rows, row_in_left, row_in_right, row_is_here}
use Rattle.prefix_tree.proofs.side.Side.+take.Goals as goal

pub take-right-requires : goal.take-right-requires
take-right-requires t c =
    let o = c.take_apart-here.ensures.opens in
    let g = sums o in
    (omega arith, (small_right c.requires.small o, (o.filled_right, omega arith)))

pub balance-requires-clause-joins : goal.balance-requires-clause-joins
balance-requires-clause-joins t c =
    take_right c.args.stamp c.take_apart-here.ensures.opens c.requires.small (rw c.deref.ensures at c.if-stamp-deref.true) c.take-right.ensures.rows c.take-right.ensures.filled

pub take-left-requires : goal.take-left-requires
take-left-requires t c =
    let o = c.take_apart-here.ensures.opens in
    let g = sums o in
    (omega arith, (small_left c.requires.small o, (o.filled_left, omega arith)))

pub balance-requires-then-deref-stamp-clause-joins : goal.balance-requires-then-deref-stamp-clause-joins
balance-requires-then-deref-stamp-clause-joins t c =
    take_left c.args.stamp c.take_apart-here.ensures.opens c.requires.small (rw c.deref-else-stamp-deref.ensures at c.if-deref-stamp.true) c.take-left.ensures.rows c.take-left.ensures.filled

pub take_first-first-requires-clause-small : goal.take_first-first-requires-clause-small
take_first-first-requires-clause-small t c = small_right c.requires.small c.take_apart-here.ensures.opens

pub balance-requires-else-is_empty-2-clause-joins : goal.balance-requires-else-is_empty-2-clause-joins
balance-requires-else-is_empty-2-clause-joins t c = take_here c.take_apart-here.ensures.opens c.requires.small c.take_first-first.ensures.rows c.take_first-first.ensures.filled

pub returns-then-stamp-deref-clause-rows : goal.returns-then-stamp-deref-clause-rows
returns-then-stamp-deref-clause-rows t c =
    rw (c.balance.ensures.balances.rows, c.take-right.ensures.rows, take_right_rows c.args.stamp c.take_apart-here.ensures.opens (rw c.deref.ensures at c.if-stamp-deref.true))

pub returns-then-stamp-deref-clause-taken : goal.returns-then-stamp-deref-clause-taken
returns-then-stamp-deref-clause-taken t c =
    c.take-right.ensures.taken ∙ sym (row_in_right c.args.stamp c.take_apart-here.ensures.opens (rw c.deref.ensures at c.if-stamp-deref.true))

pub returns-then-deref-stamp-clause-rows : goal.returns-then-deref-stamp-clause-rows
returns-then-deref-stamp-clause-rows t c =
    rw (c.balance-then-deref-stamp.ensures.balances.rows, c.take-left.ensures.rows, take_left_rows c.args.stamp c.take_apart-here.ensures.opens (rw c.deref-else-stamp-deref.ensures at c.if-deref-stamp.true))

pub returns-then-deref-stamp-clause-taken : goal.returns-then-deref-stamp-clause-taken
returns-then-deref-stamp-clause-taken t c =
    c.take-left.ensures.taken ∙ sym (row_in_left c.args.stamp c.take_apart-here.ensures.opens (rw c.deref-else-stamp-deref.ensures at c.if-deref-stamp.true))

pub returns-then-is_empty-2-clause-rows : goal.returns-then-is_empty-2-clause-rows
returns-then-is_empty-2-clause-rows t c =
    let a = rw c.deref.ensures at c.if-stamp-deref.false in
    let b = rw c.deref-else-stamp-deref.ensures at c.if-deref-stamp.false in
    take_end_rows c.args.stamp c.take_apart-here.ensures.opens (omega arith) c.if-is_empty-2.ensures.none

pub returns-then-is_empty-2-clause-taken : goal.returns-then-is_empty-2-clause-taken
returns-then-is_empty-2-clause-taken t c =
    let a = rw c.deref.ensures at c.if-stamp-deref.false in
    let b = rw c.deref-else-stamp-deref.ensures at c.if-deref-stamp.false in
    sym (row_is_here c.args.stamp c.take_apart-here.ensures.opens (omega arith))

pub returns-else-is_empty-2-clause-rows : goal.returns-else-is_empty-2-clause-rows
returns-else-is_empty-2-clause-rows t c =
    let a = rw c.deref.ensures at c.if-stamp-deref.false in
    let b = rw c.deref-else-stamp-deref.ensures at c.if-deref-stamp.false in
    c.balance-else-is_empty-2.ensures.balances.rows ∙ ap (λ z. c.take_apart-here.result.1.0 ++ z) (sym c.take_first-first.ensures.rows) ∙ sym (take_here_rows c.args.stamp c.take_apart-here.ensures.opens (omega arith))

pub returns-else-is_empty-2-clause-taken : goal.returns-else-is_empty-2-clause-taken
returns-else-is_empty-2-clause-taken t c =
    let a = rw c.deref.ensures at c.if-stamp-deref.false in
    let b = rw c.deref-else-stamp-deref.ensures at c.if-deref-stamp.false in
    sym (row_is_here c.args.stamp c.take_apart-here.ensures.opens (omega arith))
