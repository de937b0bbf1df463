use Rattle.std.proofs.Common.{rules, ◌≡◌, ◌<◌}
use Rattle.market_bench.specs.Faults.{StopsTurns}
use Rattle.market_bench.specs.Turns.{round_of, turn_of, turns_of}
use Rattle.market_bench.proofs.Turns.{stops_round}
use Rattle.market_bench.proofs.scenario.Scenario.round.Goals as goal

pub returns-in_err-sum-clause-fault : goal.returns-in_err-sum-clause-fault
returns-in_err-sum-clause-fault c =
    let fault = c.in_err-sum.field-0.0 in
    let number : c.from.result ≡ c.loop-turn.turn = search rules in
    let turn : StopsTurns fault c.args.self (turn_of c.args.self c.args.stage.now.arenas c.loop-turn.turn c.loop-turn.stage.market) =
    rw (number, c.loop-turn.invariant.arenas) at c.in_err-sum.ensures.fault in
    let within : c.loop-turn.turn < turns_of c.args.self = search rules in
    let stops : StopsTurns fault c.args.self (round_of c.args.self c.args.stage.now.arenas c.args.stage.now.market) =
    stops_round fault c.args.self c.args.stage.now.arenas c.args.stage.now.market (c.loop-turn.sum, c.loop-turn.stage.market) c.loop-turn.turn (turns_of c.args.self) c.loop-turn.invariant.sum within turn in
    search rules
