use Rattle.std.proofs.Common.{arith, refl, ◌≡◌}
use Rattle.prefix_tree.proofs.AtNode.{at_node}
use Rattle.prefix_tree.proofs.Sets.{sound_right, sound_left, sound_here, rows_right, rows_left, rows_here, fits_right, fits_left}
use Rattle.prefix_tree.proofs.side.Side.+set.Goals as goal

pub overflow_add-deref : goal.overflow_add-deref
overflow_add-deref t c =
    let n = at_node c.self.view_is c.self.invariant c.in-Some.is refl in
    rw (c.deref-then-stamp-deref-3.ensures, c.sum-sum.ensures, c.deref-then-stamp-deref.ensures, c.sum.ensures, c.deref-then-stamp-deref-4.ensures, c.deref_mut.ensures.value) (omega (arith, fits_right c.args.stamp c.args.request c.args.mandated c.set-visits.new.self n c.requires.small c.requires.request (rw c.deref_mut.ensures.value at c.set-visits.ensures.rows)))

pub invariant_of-self-then-stamp-deref : goal.invariant_of-self-then-stamp-deref
invariant_of-self-then-stamp-deref t c =
    let n = at_node c.self.view_is c.self.invariant c.in-Some.is refl in
    let k = sound_right c.args.stamp c.args.request c.args.mandated c.set-visits.new.self _ _ n.sound (rw c.deref.ensures at c.if-stamp-deref.true) (rw c.deref_mut.ensures.value at c.set-visits.ensures.rows) (rw c.deref_mut.ensures.value at c.set-visits.ensures.height) (rw (c.deref-then-stamp-deref-3.ensures, c.sum-sum.ensures, c.deref-then-stamp-deref.ensures, c.sum.ensures, c.deref-then-stamp-deref-4.ensures, c.deref_mut.ensures.value) refl) (rw (c.deref-then-stamp-deref-5.ensures, c.mandates-mandates.ensures, c.deref-then-stamp-deref-2.ensures, c.mandates.ensures, c.deref-then-stamp-deref-6.ensures, c.deref_mut-then-stamp-deref.ensures.value, c.deref_mut.ensures.value) refl) in
    rw (c.deref_mut-then-stamp-deref-2.ensures.value, c.deref_mut-then-stamp-deref.ensures.value, c.deref_mut.ensures.value) k

pub returns-then-stamp-deref-clause-rows : goal.returns-then-stamp-deref-clause-rows
returns-then-stamp-deref-clause-rows t c =
    let n = at_node c.self.view_is c.self.invariant c.in-Some.is refl in
    rw (c.deref_mut-then-stamp-deref-2.ensures.value, c.deref_mut-then-stamp-deref.ensures.value, c.deref_mut.ensures.value) (rows_right c.args.stamp c.args.request c.args.mandated c.set-visits.new.self n (rw c.deref.ensures at c.if-stamp-deref.true) (rw c.deref_mut.ensures.value at c.set-visits.ensures.rows))

pub overflow_add-deref-then-deref-stamp : goal.overflow_add-deref-then-deref-stamp
overflow_add-deref-then-deref-stamp t c =
    let n = at_node c.self.view_is c.self.invariant c.in-Some.is refl in
    rw (c.deref-then-deref-stamp-4.ensures, c.sum-sum-then-deref-stamp.ensures, c.deref-then-deref-stamp.ensures, c.deref-then-deref-stamp-5.ensures, c.deref_mut-then-deref-stamp-2.ensures.value, c.sum-then-deref-stamp.ensures, c.deref-then-deref-stamp-3.ensures, c.deref_mut-then-deref-stamp.ensures.value) (omega (arith, fits_left c.args.stamp c.args.request c.args.mandated c.set-visits-then-deref-stamp.new.self n c.requires.small c.requires.request (rw c.deref_mut-then-deref-stamp.ensures.value at c.set-visits-then-deref-stamp.ensures.rows)))

pub invariant_of-self-then-deref-stamp : goal.invariant_of-self-then-deref-stamp
invariant_of-self-then-deref-stamp t c =
    let n = at_node c.self.view_is c.self.invariant c.in-Some.is refl in
    let k = sound_left c.args.stamp c.args.request c.args.mandated c.set-visits-then-deref-stamp.new.self _ _ _ n.sound (rw c.deref-2.ensures at c.if-deref-stamp.true) (rw c.deref_mut-then-deref-stamp.ensures.value at c.set-visits-then-deref-stamp.ensures.rows) (rw c.deref_mut-then-deref-stamp.ensures.value at c.set-visits-then-deref-stamp.ensures.height) (rw (c.deref-then-deref-stamp-4.ensures, c.sum-sum-then-deref-stamp.ensures, c.deref-then-deref-stamp.ensures, c.deref-then-deref-stamp-5.ensures, c.deref_mut-then-deref-stamp-2.ensures.value, c.sum-then-deref-stamp.ensures, c.deref-then-deref-stamp-3.ensures, c.deref_mut-then-deref-stamp.ensures.value) refl) (rw (c.deref-then-deref-stamp-6.ensures, c.mandates-mandates-then-deref-stamp.ensures, c.deref-then-deref-stamp-2.ensures, c.mandates-then-deref-stamp.ensures, c.deref-then-deref-stamp-7.ensures, c.deref_mut-then-deref-stamp-3.ensures.value, c.deref_mut-then-deref-stamp-2.ensures.value, c.deref_mut-then-deref-stamp.ensures.value) refl) (rw (c.sum-then-deref-stamp.ensures, c.deref-then-deref-stamp-3.ensures) refl) in
    rw (c.deref_mut-then-deref-stamp-4.ensures.value, c.deref_mut-then-deref-stamp-3.ensures.value, c.deref_mut-then-deref-stamp-2.ensures.value, c.deref_mut-then-deref-stamp.ensures.value) k

pub returns-then-deref-stamp-clause-rows : goal.returns-then-deref-stamp-clause-rows
returns-then-deref-stamp-clause-rows t c =
    let n = at_node c.self.view_is c.self.invariant c.in-Some.is refl in
    rw (c.deref_mut-then-deref-stamp-4.ensures.value, c.deref_mut-then-deref-stamp-3.ensures.value, c.deref_mut-then-deref-stamp-2.ensures.value, c.deref_mut-then-deref-stamp.ensures.value) (rows_left c.args.stamp c.args.request c.args.mandated c.set-visits-then-deref-stamp.new.self n (rw c.deref-2.ensures at c.if-deref-stamp.true) (rw c.deref_mut-then-deref-stamp.ensures.value at c.set-visits-then-deref-stamp.ensures.rows))

pub invariant_of-self-2 : goal.invariant_of-self-2
invariant_of-self-2 t c =
    let n = at_node c.self.view_is c.self.invariant c.in-Some.is refl in
    let same : c.in-Some.node.value.row.stamp ≡ c.args.stamp = rw (← c.deref.ensures) (omega (arith, c.if-stamp-deref.false, rw (c.deref-2.ensures, ← c.deref.ensures) at c.if-deref-stamp.false)) in
    let k = sound_here c.args.stamp c.args.request c.args.mandated _ _ n.sound same (rw (c.deref-3.ensures, c.deref-4.ensures) refl) (rw (c.deref-5.ensures, c.one_if.ensures.exact, c.deref-6.ensures, c.one_if-2.ensures.exact, c.deref_mut-2.ensures.value) refl) in
    rw (c.deref_mut-5.ensures.value, c.deref_mut-4.ensures.value, c.deref_mut-3.ensures.value, c.deref_mut-2.ensures.value) k

pub returns-clause-rows : goal.returns-clause-rows
returns-clause-rows t c =
    let n = at_node c.self.view_is c.self.invariant c.in-Some.is refl in
    let same : c.in-Some.node.value.row.stamp ≡ c.args.stamp = rw (← c.deref.ensures) (omega (arith, c.if-stamp-deref.false, rw (c.deref-2.ensures, ← c.deref.ensures) at c.if-deref-stamp.false)) in
    rw (c.deref_mut-5.ensures.value, c.deref_mut-4.ensures.value, c.deref_mut-3.ensures.value, c.deref_mut-2.ensures.value) (rows_here c.args.stamp c.args.request c.args.mandated n same)
