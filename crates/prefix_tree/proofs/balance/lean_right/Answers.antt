use Rattle.prefix_tree.proofs.Joins.{low_left, top_right, inner_right, low_right, middle_right}
use Rattle.prefix_tree.proofs.balance.lean_right.Goals as goal

pub fork-low-requires-clause-joins : goal.fork-low-requires-clause-joins
fork-low-requires-clause-joins c = low_right c.requires.joins c.open-top.ensures

pub fork-requires-clause-joins : goal.fork-requires-clause-joins
fork-requires-clause-joins c = top_right c.requires.joins c.open-top.ensures c.fork-low.ensures.rows c.fork-low.ensures.filled

pub fork-low-requires-else-height-clause-joins : goal.fork-low-requires-else-height-clause-joins
fork-low-requires-else-height-clause-joins c = low_right (low_right c.requires.joins c.open-top.ensures) c.open-middle.ensures

pub fork-requires-else-height-clause-joins : goal.fork-requires-else-height-clause-joins
fork-requires-else-height-clause-joins c = low_left (inner_right c.requires.joins c.open-top.ensures) c.open-middle.ensures

pub fork-requires-else-height-2-clause-joins : goal.fork-requires-else-height-2-clause-joins
fork-requires-else-height-2-clause-joins c = middle_right c.requires.joins c.open-top.ensures c.open-middle.ensures c.fork-low-else-height.ensures.rows c.fork-else-height.ensures.rows c.fork-low-else-height.ensures.filled c.fork-else-height.ensures.filled
