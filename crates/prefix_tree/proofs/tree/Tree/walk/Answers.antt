use Rattle.std.proofs.Common.{arith}
use Rattle.prefix_tree.proofs.Whole.{small_tree, tree_height}
use Rattle.prefix_tree.proofs.tree.Tree.walk.Goals as goal

pub walk-requires : goal.walk-requires
walk-requires c = small_tree c.self.invariant

pub returns-clause-visits : goal.returns-clause-visits
returns-clause-visits c = rw (← c.self.view_is) (omega (arith, tree_height c.self.invariant))
