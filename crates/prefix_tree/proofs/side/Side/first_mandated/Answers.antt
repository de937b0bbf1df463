use Rattle.std.proofs.Common.{arith, ◌≡◌, ◌∙◌, sym}
use Rattle.prefix_tree.specs.Nodes.{mandates}
use Rattle.prefix_tree.proofs.AtNode.{top_node, left_mandated, here_mandated, right_mandated}
use Rattle.prefix_tree.proofs.side.Side.first_mandated.Goals as goal

pub loop-node-preserved-then-mandates-gt0 : goal.loop-node-preserved-then-mandates-gt0
loop-node-preserved-then-mandates-gt0 c =
    let n = top_node c.in-Some.ensures.top in
    record { same = sym (left_mandated n (omega arith)) ∙ c.loop-node.invariant.same; entered = λ h. omega (arith, c.in-Some.ensures.counted); visits = omega (arith, c.in-Some.ensures.counted, n.lower_left) }

pub returns-then-node-clause-row : goal.returns-then-node-clause-row
returns-then-node-clause-row c =
    let n = top_node c.in-Some.ensures.top in
    let none : mandates c.in-Some.node.now.left.0 ≡ 0 = omega arith in
    sym (here_mandated n none c.if-node.true) ∙ c.loop-node.invariant.same

pub loop-node-preserved : goal.loop-node-preserved
loop-node-preserved c =
    let n = top_node c.in-Some.ensures.top in
    record { same = sym (right_mandated n (omega arith) c.if-node.false) ∙ c.loop-node.invariant.same; entered = λ h. omega (arith, c.in-Some.ensures.counted); visits = omega (arith, c.in-Some.ensures.counted, n.lower_right) }
