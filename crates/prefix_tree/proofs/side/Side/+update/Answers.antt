use Rattle.std.proofs.Common.{arith, refl, ◌≡◌, ◌<◌, ◌≤◌}
use Rattle.prefix_tree.proofs.AtNode.{at_node}
use Rattle.prefix_tree.proofs.Sets.{rows_right, rows_left, rows_here}
use Rattle.prefix_tree.proofs.Updates.{IsAt, sum_holds, mandates_hold, newer_holds, small_below, there_right, there_left, updated_right, updated_left, updated_here}
use Rattle.prefix_tree.proofs.side.Side.+update.Goals as goal

pub overflow_sub-node : goal.overflow_sub-node
overflow_sub-node t c =
    let n = at_node c.self.view_is c.self.invariant c.in-Some.is refl in
    rw c.deref_mut-node.ensures.value (sum_holds (record { node = n; there = c.requires.there }))

pub overflow_sub-node-2 : goal.overflow_sub-node-2
overflow_sub-node-2 t c =
    let n = at_node c.self.view_is c.self.invariant c.in-Some.is refl in
    rw (c.one_if.ensures.exact, c.deref_mut-node.ensures.value) (mandates_hold (record { node = n; there = c.requires.there }))

pub update-visits-requires : goal.update-visits-requires
update-visits-requires t c =
    let n = at_node c.self.view_is c.self.invariant c.in-Some.is refl in
    let a : IsAt c.args.row.now c.args.self.now c.in-Some.node.value = record { node = n; there = c.requires.there } in
    let h : c.args.row.now.stamp < c.in-Some.node.value.row.stamp = rw c.deref_mut-node.ensures.value at c.if-row-node.true in
    (rw c.deref_mut-node.ensures.value (omega (arith, n.lengths)), (rw c.deref_mut-node.ensures.value (small_below n c.requires.small).right, (c.requires.request, (rw c.deref_mut-node.ensures.value (there_right a h), rw c.deref_mut-node.ensures.value (omega (arith, n.lower_right))))))

pub invariant_of-self : goal.invariant_of-self
invariant_of-self t c =
    let n = at_node c.self.view_is c.self.invariant c.in-Some.is refl in
    let a : IsAt c.args.row.now c.args.self.now c.in-Some.node.value = record { node = n; there = c.requires.there } in
    let h : c.args.row.now.stamp < c.in-Some.node.value.row.stamp = rw c.deref_mut-node.ensures.value at c.if-row-node.true in
    let k = updated_right c.args.request c.args.mandated c.update-visits.new.self _ _ a h (rw c.deref_mut-node.ensures.value at c.update-visits.ensures.rows) (rw c.deref_mut-node.ensures.value at c.update-visits.ensures.height) refl (rw (c.one_if.ensures.exact, c.one_if-2.ensures.exact) refl) in
    rw c.deref_mut-node.ensures.value k

pub returns-then-row-node-clause-rows : goal.returns-then-row-node-clause-rows
returns-then-row-node-clause-rows t c =
    let n = at_node c.self.view_is c.self.invariant c.in-Some.is refl in
    let a : IsAt c.args.row.now c.args.self.now c.in-Some.node.value = record { node = n; there = c.requires.there } in
    let h : c.args.row.now.stamp < c.in-Some.node.value.row.stamp = rw c.deref_mut-node.ensures.value at c.if-row-node.true in
    rw c.deref_mut-node.ensures.value (rows_right c.args.row.now.stamp c.args.request c.args.mandated c.update-visits.new.self n h (rw c.deref_mut-node.ensures.value at c.update-visits.ensures.rows))

pub overflow_sub-node-then-node-row : goal.overflow_sub-node-then-node-row
overflow_sub-node-then-node-row t c =
    let n = at_node c.self.view_is c.self.invariant c.in-Some.is refl in
    let a : IsAt c.args.row.now c.args.self.now c.in-Some.node.value = record { node = n; there = c.requires.there } in
    let h : c.in-Some.node.value.row.stamp < c.args.row.now.stamp = rw c.deref_mut-node.ensures.value at c.if-node-row.true in
    rw c.deref_mut-node.ensures.value (newer_holds a h)

pub update-visits-requires-then-node-row : goal.update-visits-requires-then-node-row
update-visits-requires-then-node-row t c =
    let n = at_node c.self.view_is c.self.invariant c.in-Some.is refl in
    let a : IsAt c.args.row.now c.args.self.now c.in-Some.node.value = record { node = n; there = c.requires.there } in
    let h : c.in-Some.node.value.row.stamp < c.args.row.now.stamp = rw c.deref_mut-node.ensures.value at c.if-node-row.true in
    (rw c.deref_mut-node.ensures.value (omega (arith, n.lengths)), (rw c.deref_mut-node.ensures.value (small_below n c.requires.small).left, (c.requires.request, (rw c.deref_mut-node.ensures.value (there_left a h), rw c.deref_mut-node.ensures.value (omega (arith, n.lower_left))))))

pub invariant_of-self-then-node-row : goal.invariant_of-self-then-node-row
invariant_of-self-then-node-row t c =
    let n = at_node c.self.view_is c.self.invariant c.in-Some.is refl in
    let a : IsAt c.args.row.now c.args.self.now c.in-Some.node.value = record { node = n; there = c.requires.there } in
    let h : c.in-Some.node.value.row.stamp < c.args.row.now.stamp = rw c.deref_mut-node.ensures.value at c.if-node-row.true in
    let k = updated_left c.args.request c.args.mandated c.update-visits-then-node-row.new.self _ _ _ a h (rw c.deref_mut-node.ensures.value at c.update-visits-then-node-row.ensures.rows) (rw c.deref_mut-node.ensures.value at c.update-visits-then-node-row.ensures.height) refl (rw (c.one_if.ensures.exact, c.one_if-2.ensures.exact) refl) refl in
    rw c.deref_mut-node.ensures.value k

pub returns-then-node-row-clause-rows : goal.returns-then-node-row-clause-rows
returns-then-node-row-clause-rows t c =
    let n = at_node c.self.view_is c.self.invariant c.in-Some.is refl in
    let a : IsAt c.args.row.now c.args.self.now c.in-Some.node.value = record { node = n; there = c.requires.there } in
    let h : c.in-Some.node.value.row.stamp < c.args.row.now.stamp = rw c.deref_mut-node.ensures.value at c.if-node-row.true in
    rw c.deref_mut-node.ensures.value (rows_left c.args.row.now.stamp c.args.request c.args.mandated c.update-visits-then-node-row.new.self n h (rw c.deref_mut-node.ensures.value at c.update-visits-then-node-row.ensures.rows))

pub invariant_of-self-2 : goal.invariant_of-self-2
invariant_of-self-2 t c =
    let n = at_node c.self.view_is c.self.invariant c.in-Some.is refl in
    let a : IsAt c.args.row.now c.args.self.now c.in-Some.node.value = record { node = n; there = c.requires.there } in
    let older : c.in-Some.node.value.row.stamp ≤ c.args.row.now.stamp = rw c.deref_mut-node.ensures.value at c.if-row-node.false in
    let newer : c.args.row.now.stamp ≤ c.in-Some.node.value.row.stamp = rw c.deref_mut-node.ensures.value at c.if-node-row.false in
    let h : c.in-Some.node.value.row.stamp ≡ c.args.row.now.stamp = omega arith in
    let k = updated_here c.args.request c.args.mandated _ _ a h refl (rw (c.one_if.ensures.exact, c.one_if-2.ensures.exact) refl) in
    rw c.deref_mut-node.ensures.value k

pub returns-clause-rows : goal.returns-clause-rows
returns-clause-rows t c =
    let n = at_node c.self.view_is c.self.invariant c.in-Some.is refl in
    let a : IsAt c.args.row.now c.args.self.now c.in-Some.node.value = record { node = n; there = c.requires.there } in
    let older : c.in-Some.node.value.row.stamp ≤ c.args.row.now.stamp = rw c.deref_mut-node.ensures.value at c.if-row-node.false in
    let newer : c.args.row.now.stamp ≤ c.in-Some.node.value.row.stamp = rw c.deref_mut-node.ensures.value at c.if-node-row.false in
    let h : c.in-Some.node.value.row.stamp ≡ c.args.row.now.stamp = omega arith in
    rw c.deref_mut-node.ensures.value (rows_here c.args.row.now.stamp c.args.request c.args.mandated n h)
