-- so many rounds were given to the market
use Rattle.std.proofs.Common.{◌≡◌, Some}
use Rattle.market_bench.specs.Turns.{after_rounds}
use Rattle.market_bench.proofs.measure.time_turn.Given as goal

abbrev pub invariant-loop-time : goal.invariant-loop-time
invariant-loop-time g l =
    record {
      rounds : after_rounds l.scenario l.fn.stage.arenas l.fn.stage.market l.time-index ≡ Some l.stage.market;
      arenas : l.stage.arenas ≡ l.fn.stage.arenas;
    }
