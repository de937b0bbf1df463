use Rattle.std.proofs.Common.{arith, ◌≤◌}
use Rattle.market_types.proofs.RowChanges.{absent_without, row-all}
use Rattle.prefix_tree.proofs.Whole.{small_tree, tree_height, removed, room_again}
use Rattle.prefix_tree.proofs.tree.Tree.take.Goals as goal

pub take-root-requires-clause-small : goal.take-root-requires-clause-small
take-root-requires-clause-small c = rw c.replace-root.ensures.value (small_tree c.self.invariant)

pub invariant_of-self : goal.invariant_of-self
invariant_of-self c =
    let rows = rw c.replace-root.ensures.value at c.take-root.ensures.rows in
    removed c.args.stamp c.self.invariant rows c.take-root.ensures.filled

pub returns-clause-low : goal.returns-clause-low
returns-clause-low c =
    let taken = rw c.replace-root.ensures.value at c.take-root.ensures.taken in
    rw taken (row-all (λ y. y.request ≤ 65535) c.args.stamp c.self.inside.root.0 c.self.invariant.low)

pub returns-clause-newest_first : goal.returns-clause-newest_first
returns-clause-newest_first c =
    let rows = rw c.replace-root.ensures.value at c.take-root.ensures.rows in
    (removed c.args.stamp c.self.invariant rows c.take-root.ensures.filled).ordered

pub returns-clause-absent : goal.returns-clause-absent
returns-clause-absent c =
    let rows = rw c.replace-root.ensures.value at c.take-root.ensures.rows in
    rw rows (absent_without c.args.stamp c.self.inside.root.0)

pub returns-clause-room : goal.returns-clause-room
returns-clause-room c =
    let taken = rw c.replace-root.ensures.value at c.take-root.ensures.taken in
    let rows = rw c.replace-root.ensures.value at c.take-root.ensures.rows in
    rw (taken, rows) (room_again c.args.stamp c.self.invariant)

pub returns-clause-visits : goal.returns-clause-visits
returns-clause-visits c =
    let visits = rw c.replace-root.ensures.value at c.take-root.ensures.visits in
    rw (← c.self.view_is) (omega (arith, tree_height c.self.invariant))
