use Rattle.std.proofs.Common.{arith}
use Rattle.prefix_tree.proofs.Joins.{sums}
use Rattle.prefix_tree.proofs.Moves.{small_left, small_right, absent_left, absent_right, absent_here, put_left, put_right, put_left_rows, put_right_rows}
use Rattle.prefix_tree.proofs.side.Side.+put.Goals as goal

pub put-right-requires : goal.put-right-requires
put-right-requires t c =
    let o = c.take_apart-here.ensures.opens in
    let g = sums o in
    (omega arith, (small_right c.requires.small o, (c.requires.request, (absent_right _ c.requires.absent o, (o.filled_right, omega arith)))))

pub put-left-requires : goal.put-left-requires
put-left-requires t c =
    let o = c.take_apart-here.ensures.opens in
    let g = sums o in
    (omega arith, (small_left c.requires.small o, (c.requires.request, (absent_left _ c.requires.absent o, (o.filled_left, omega arith)))))

pub balance-requires-clause-joins : goal.balance-requires-clause-joins
balance-requires-clause-joins t c =
    let h = rw (c.deref.ensures, c.deref-2.ensures) at c.if-deref.true in
    put_right c.args.node.value.row c.take_apart-here.ensures.opens c.requires.small c.requires.request c.requires.absent h c.put-right.ensures.rows c.put-right.ensures.filled

pub balance-requires-else-deref-clause-joins : goal.balance-requires-else-deref-clause-joins
balance-requires-else-deref-clause-joins t c =
    let h = rw (c.deref.ensures, c.deref-2.ensures) at c.if-deref.false in
    let ne = absent_here c.args.node.value.row.stamp c.requires.absent c.take_apart-here.ensures.opens in
    put_left c.args.node.value.row c.take_apart-here.ensures.opens c.requires.small c.requires.request c.requires.absent (omega arith) c.put-left.ensures.rows c.put-left.ensures.filled

pub returns-then-deref-clause-rows : goal.returns-then-deref-clause-rows
returns-then-deref-clause-rows t c =
    let h = rw (c.deref.ensures, c.deref-2.ensures) at c.if-deref.true in
    rw (c.balance.ensures.balances.rows, c.put-right.ensures.rows, put_right_rows c.args.node.value.row c.take_apart-here.ensures.opens h)

pub returns-else-deref-clause-rows : goal.returns-else-deref-clause-rows
returns-else-deref-clause-rows t c =
    let h = rw (c.deref.ensures, c.deref-2.ensures) at c.if-deref.false in
    let ne = absent_here c.args.node.value.row.stamp c.requires.absent c.take_apart-here.ensures.opens in
    rw (c.balance-else-deref.ensures.balances.rows, c.put-left.ensures.rows, put_left_rows c.args.node.value.row c.take_apart-here.ensures.opens (omega arith))
