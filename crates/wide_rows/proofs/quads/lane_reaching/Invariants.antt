use Rattle.std.proofs.Common.{◌≤◌, ◌+◌}
use Rattle.wide_rows.specs.Leaves.{lane}
use Rattle.wide_rows.proofs.Reaching.{IsReaching}
use Rattle.wide_rows.proofs.quads.lane_reaching.Given as goal

abbrev pub invariant-loop-lane : goal.invariant-loop-lane
invariant-loop-lane l = record {
  few : l.lane ≤ 4;
  sought : IsReaching l.workers l.demand (λ i. lane l.columns (l.first + i)) l.count l.lane l.carry l.place l.behind;
}

abbrev pub decreases-loop-lane : goal.decreases-loop-lane
decreases-loop-lane l = l.lane
