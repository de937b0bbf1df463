use Rattle.std.proofs.Common.{arith}
use Rattle.prefix_tree.proofs.Whole.{small_tree, tree_height, inserted}
use Rattle.prefix_tree.proofs.tree.Tree.put.Goals as goal

pub put-requires-clause-small : goal.put-requires-clause-small
put-requires-clause-small c = rw c.replace-root.ensures.value (small_tree c.self.invariant)

pub invariant_of-self : goal.invariant_of-self
invariant_of-self c =
    let rows = rw c.replace-root.ensures.value at c.put.ensures.rows in
    let room = rw (← c.self.view_is) at c.requires.room in
    let absent = rw (← c.self.view_is) at c.requires.absent in
    inserted c.args.node.value.row c.self.invariant room c.requires.request absent rows c.put.ensures.filled

pub returns-clause-visits : goal.returns-clause-visits
returns-clause-visits c =
    let visits = rw c.replace-root.ensures.value at c.put.ensures.visits in
    rw (← c.self.view_is) (omega (arith, tree_height c.self.invariant))
