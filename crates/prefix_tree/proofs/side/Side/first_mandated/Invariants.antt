use Rattle.std.proofs.Common.{◌≡◌, ◌+◌, ◌≤◌, length, ◌<◌}
use Rattle.market_types.specs.Rows.{first_mandated}
use Rattle.prefix_tree.proofs.side.Side.first_mandated.Given as goal

abbrev pub invariant-loop-node : goal.invariant-loop-node
invariant-loop-node l = record { same : first_mandated l.side.0 ≡ first_mandated l.self.0; entered : 0 < length l.self.0 → 0 < l.visits + length l.side.0; visits : l.visits + l.side.1 ≤ l.self.1 }

abbrev pub decreases-loop-node : goal.decreases-loop-node
decreases-loop-node l = l.side.1
