use Rattle.std.specs.List.{slice_get}
use Rattle.std.proofs.Common.{◌≡◌, ◌+◌, ◌≤◌, length, ◌<◌}
use Rattle.prefix_tree.proofs.side.Side.walk.Given as goal

abbrev pub invariant-loop-node : goal.invariant-loop-node
invariant-loop-node l = record { same : slice_get l.side.0 l.rest ≡ slice_get l.self.0 l.fn.index; entered : 0 < length l.self.0 → 0 < l.visits + length l.side.0; visits : l.visits + l.side.1 ≤ l.self.1 }

abbrev pub decreases-loop-node : goal.decreases-loop-node
decreases-loop-node l = l.side.1
