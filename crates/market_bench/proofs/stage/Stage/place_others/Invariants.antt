-- so many seats have joined, among the arenas that there were
use Rattle.std.proofs.Common.{◌≡◌, Some}
use Rattle.market_bench.specs.Stages.{with_joined}
use Rattle.market_bench.proofs.stage.Stage.place_others.Given as goal

abbrev pub invariant-loop-other : goal.invariant-loop-other
invariant-loop-other l =
    record {
      market : with_joined l.other l.fn.self.market ≡ Some l.self.market;
      arenas : l.self.arenas ≡ l.fn.self.arenas;
    }
