use Rattle.std.proofs.Common.{◌≡◌, ◌+◌, ◌≤◌, length, ◌<◌}
use Rattle.market_types.specs.Rows.{requests, requests_above}
use Rattle.prefix_tree.proofs.side.Side.sum_before.Given as goal

abbrev pub invariant-loop-node : goal.invariant-loop-node
invariant-loop-node l = record { sum : l.before + requests_above l.stamp l.side.0 ≡ requests_above l.stamp l.self.0; entered : 0 < length l.self.0 → 0 < l.visits + length l.side.0; visits : l.visits + l.side.1 ≤ l.self.1; within : requests l.side.0 ≤ requests l.self.0 }

abbrev pub decreases-loop-node : goal.decreases-loop-node
decreases-loop-node l = l.side.1
