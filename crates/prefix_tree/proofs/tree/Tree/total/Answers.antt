use Rattle.std.proofs.Common.{arith}
use Rattle.market_types.proofs.RowReadings.{requests-le}
use Rattle.prefix_tree.proofs.tree.Tree.total.Goals as goal

pub returns-clause-most : goal.returns-clause-most
returns-clause-most c = omega (arith, requests-le c.self.inside.root.0 c.self.invariant.low, c.self.invariant.room)
