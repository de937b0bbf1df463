use Rattle.prefix_tree.proofs.Whole.{small_tree, tree_height}
use Rattle.prefix_tree.proofs.tree.Tree.whole.Goals as goal

pub invariant_of-result : goal.invariant_of-result
invariant_of-result c = let small = small_tree c.self.invariant in record { sum_is = c.sum.ensures; small = small.sum }

pub returns-clause-height : goal.returns-clause-height
returns-clause-height c = rw (← c.self.view_is) (tree_height c.self.invariant)
