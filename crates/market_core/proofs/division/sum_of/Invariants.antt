use Rattle.std.proofs.Common.{◌≡◌, ◌*◌, ◌≤◌, sum, take}
use Rattle.market_core.proofs.division.sum_of.Given as goal

abbrev pub invariant-loop-demand : goal.invariant-loop-demand
invariant-loop-demand l =
    record {
      so_far : l.total ≡ sum (take l.demand-index l.demands);
      small : l.total ≤ 1024 * 65535 * l.demand-index;
    }
