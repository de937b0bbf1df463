-- A turn that stops, stops the round.
use Rattle.std.proofs.Common.{◌≡◌, ℕ, ◌<◌, Some, None, refl}
use Rattle.market_types.specs.State.{State}
use Rattle.market_bench.proofs.Repeated.{ends_all}
use Rattle.market_bench.specs.Faults.{StopsTurns}
use Rattle.market_bench.specs.Turns.{Sum, turn_of, turns_after, with_turn}
use Rattle.market_bench.specs.declared.fault.TurnFault.{TurnFault}
use Rattle.market_bench.specs.declared.fault.TurnFault.TheVariants.{Memory, Refused}
use Rattle.market_bench.specs.declared.scenario.Scenario.{Scenario}

pub stops_round : (fault : TurnFault) (scenario : Scenario) (arenas : ℕ) (s : State) (so_far : Sum) (turn count : ℕ) → turns_after scenario arenas s turn ≡ Some so_far → turn < count → StopsTurns fault scenario (turn_of scenario arenas turn so_far.1) → StopsTurns fault scenario (turns_after scenario arenas s count)
stops_round Memory scenario arenas s so_far turn count before less stops = stops
stops_round Refused scenario arenas s so_far turn count before less stops =
    let none : with_turn scenario arenas turn so_far ≡ None = rw (stops) refl in
    ends_all (with_turn scenario arenas) (0, s) so_far turn count before less none
