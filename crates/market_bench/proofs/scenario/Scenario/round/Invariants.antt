-- the sum is that of the turns so far
use Rattle.std.proofs.Common.{◌≡◌, Some}
use Rattle.market_bench.specs.Turns.{turns_after}
use Rattle.market_bench.proofs.scenario.Scenario.round.Given as goal

abbrev pub invariant-loop-turn : goal.invariant-loop-turn
invariant-loop-turn l =
    record {
      sum : turns_after l.self l.fn.stage.arenas l.fn.stage.market l.turn ≡ Some (l.sum, l.stage.market);
      arenas : l.stage.arenas ≡ l.fn.stage.arenas;
    }
