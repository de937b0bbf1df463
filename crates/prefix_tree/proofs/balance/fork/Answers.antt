use Rattle.std.proofs.Common.{arith, ◌≡◌, max}
use Rattle.prefix_tree.proofs.Heights.{filled_node}
use Rattle.prefix_tree.proofs.Readings.{mandates-le, mandates-node}
use Rattle.market_types.proofs.RowReadings.{length-node, requests-node}
use Rattle.prefix_tree.proofs.balance.fork.Goals as goal

pub invariant_of-result : goal.invariant_of-result
invariant_of-result c =
    let e = c.deref_mut-inner.ensures.value in
    let one = rw e at c.one_if.ensures.exact in
    rw e (record {
      ordered = c.requires.joins.ordered;
      balanced = record {
        height = omega arith;
        near = c.requires.near;
        left = c.requires.joins.filled_left;
        right = c.requires.joins.filled_right;
      };
      summed = record {
        sum = omega (arith, requests-node c.args.left.0 c.args.node.value.row c.args.right.0);
        count = omega (arith, length-node c.args.left.0 c.args.node.value.row c.args.right.0);
        mandates = omega (arith, mandates-node c.args.left.0 c.args.node.value.row c.args.right.0);
        newer = c.sum-inner.ensures;
      };
    })

pub overflow_add-inner-6 : goal.overflow_add-inner-6
overflow_add-inner-6 c = omega (arith, mandates-le c.args.left.0, mandates-le c.args.right.0)

pub overflow_add-inner-7 : goal.overflow_add-inner-7
overflow_add-inner-7 c = omega (arith, mandates-le c.args.left.0, mandates-le c.args.right.0)

pub returns-clause-filled : goal.returns-clause-filled
returns-clause-filled c =
    let e = c.deref_mut-inner.ensures.value in
    let m : c.max.result ≡ max c.args.left.1 c.args.right.1 = omega arith in
    record {
      least = rw (e, length-node c.args.left.0 c.args.node.value.row c.args.right.0, m)
          (filled_node c.args.left.1 c.args.right.1 _ _ c.requires.near.left c.requires.near.right c.requires.joins.filled_left.least c.requires.joins.filled_right.least);
    }
