-- an arena was opened at each place so far
use Rattle.std.proofs.Common.{◌≡◌, length, Some}
use Rattle.market_bench.specs.Stages.{with_arenas}
use Rattle.market_bench.proofs.stage.open_arenas.Given as goal

abbrev pub invariant-loop-place : goal.invariant-loop-place
invariant-loop-place l =
    record {
      market : with_arenas l.levels l.place l.fn.market ≡ Some l.market;
      opened : length l.market.arenas ≡ l.place;
      seats : length l.market.seats ≡ 64;
    }
