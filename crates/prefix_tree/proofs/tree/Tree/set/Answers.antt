use Rattle.std.proofs.Common.{arith}
use Rattle.prefix_tree.proofs.Whole.{small_tree, tree_height, reset}
use Rattle.prefix_tree.proofs.tree.Tree.set.Goals as goal

pub set-requires-clause-small : goal.set-requires-clause-small
set-requires-clause-small c = small_tree c.self.invariant

pub invariant_of-self : goal.invariant_of-self
invariant_of-self c = reset c.args.stamp c.args.request c.args.mandated c.self.invariant c.requires.request c.set.ensures.rows c.set.ensures.height

pub returns-clause-visits : goal.returns-clause-visits
returns-clause-visits c = rw (← c.self.view_is) (omega (arith, tree_height c.self.invariant))

pub returns-clause-newest_first : goal.returns-clause-newest_first
returns-clause-newest_first c = (reset c.args.stamp c.args.request c.args.mandated c.self.invariant c.requires.request c.set.ensures.rows c.set.ensures.height).ordered
