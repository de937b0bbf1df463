use Rattle.std.proofs.Common.{arith}
use Rattle.prefix_tree.proofs.Joins.{sums}
use Rattle.prefix_tree.proofs.Moves.{small_left, take_first}
use Rattle.prefix_tree.proofs.side.Side.+take_first.Goals as goal

pub take_first-first-requires : goal.take_first-first-requires
take_first-first-requires t c =
    let o = c.take_apart-here.ensures.opens in
    let g = sums o in
    (omega arith, (small_left c.requires.small o, (c.if-is_empty.ensures.some, (o.filled_left, omega arith))))

pub balance-requires-clause-joins : goal.balance-requires-clause-joins
balance-requires-clause-joins t c = take_first c.take_apart-here.ensures.opens c.requires.small c.take_first-first.ensures.rows c.take_first-first.ensures.filled
