use Rattle.std.proofs.Common.{arith, ap, ◌<◌, ℕ}
use Rattle.market_types.proofs.RowReadings.{above-le}
use Rattle.prefix_tree.proofs.AtNode.{top_node, node_requests, right_above, left_above, here_above}
use Rattle.prefix_tree.proofs.side.Side.sum_before.Goals as goal
use Rattle.prefix_tree.proofs.side.Side.sum_before.Goals.{then-stamp-node-2, else-stamp-node-2}

pub overflow_add-result : goal.overflow_add-result
overflow_add-result c =
    let n = top_node c.in-Some.ensures.top in
    omega (arith, n.sound.summed.newer, here_above n c.args.stamp (omega arith), above-le c.args.stamp c.args.self.now.0)

pub returns-then-stamp-node-clause-sum : goal.returns-then-stamp-node-clause-sum
returns-then-stamp-node-clause-sum c =
    let n = top_node c.in-Some.ensures.top in
    omega (arith, n.sound.summed.newer, here_above n c.args.stamp (omega arith))

pub overflow_add-before : goal.overflow_add-before
overflow_add-before c =
    let n = top_node c.in-Some.ensures.top in
    elim c.if-stamp-node-2.branch [
      | then-stamp-node-2 w ↦ omega (arith, n.sound.summed.newer, ap (λ (p : _ × ℕ). p.1) w.more-is, right_above n c.args.stamp w.if-stamp-node-2.true, above-le c.args.stamp c.args.self.now.0)
      | else-stamp-node-2 w ↦ omega (arith, ap (λ (p : _ × ℕ). p.1) w.more-is, above-le c.args.stamp c.args.self.now.0)
    ]

pub loop-node-preserved : goal.loop-node-preserved
loop-node-preserved c =
    let n = top_node c.in-Some.ensures.top in
    elim c.if-stamp-node-2.branch [
      | then-stamp-node-2 w ↦ rw w.more-is (record { sum = omega (arith, n.sound.summed.newer, right_above n c.args.stamp w.if-stamp-node-2.true); entered = λ h. omega (arith, c.in-Some.ensures.counted); visits = omega (arith, c.in-Some.ensures.counted, n.lower_right); within = omega (arith, node_requests n) })
      | else-stamp-node-2 w ↦
          let over : c.in-Some.node.now.row.stamp < c.args.stamp = omega (arith, w.if-stamp-node-2.false, c.if-stamp-node.false) in
          rw w.more-is (record { sum = omega (arith, left_above n c.args.stamp over); entered = λ h. omega (arith, c.in-Some.ensures.counted); visits = omega (arith, c.in-Some.ensures.counted, n.lower_left); within = omega (arith, node_requests n) })
    ]

pub overflow_add-passed : goal.overflow_add-passed
overflow_add-passed c = let n = top_node c.in-Some.ensures.top in omega (arith, n.sound.summed.newer, node_requests n)
