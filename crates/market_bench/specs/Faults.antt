use Rattle.std.specs.Prelude.{◌≡◌, true, Option, None}
use Rattle.market_types.specs.declared.command.Cmd.{Cmd}
use Rattle.market_types.specs.declared.reply.Reply.{Reply}
use Rattle.market_core.specs.Memory.{takes_memory}
use Rattle.market_bench.specs.Replies.{number_in}
use Rattle.market_bench.specs.Turns.{Sum}
use Rattle.market_bench.specs.declared.scenario.Scenario.{Scenario}
use Rattle.market_bench.specs.declared.scenario.Scenario.TheVariants.{Lists}
use Rattle.market_bench.specs.declared.fault.TurnFault.{TurnFault}
use Rattle.market_bench.specs.declared.fault.TurnFault.TheVariants as turn
use Rattle.market_bench.specs.declared.fault.BenchFault.{BenchFault}
use Rattle.market_bench.specs.declared.fault.BenchFault.TheVariants as bench

-- why there is no table where a turn stopped
abbrev pub told_as : TurnFault → BenchFault
told_as turn.Memory = bench.Memory
told_as turn.Refused = bench.Refused

-- a command can stop a turn so: one that takes memory since that ran out, and one whose reply is a refusal by that
abbrev pub Stops : TurnFault → Cmd → Reply → Type 0
Stops turn.Memory cmd reply = takes_memory cmd ≡ true
Stops turn.Refused cmd reply = number_in reply ≡ None

-- turns with this sum can stop so: those of Lists by running out of memory, those without a sum by a refusal
abbrev pub StopsTurns : TurnFault → Scenario → Option Sum → Type 0
StopsTurns turn.Memory scenario sum = scenario ≡ Lists
StopsTurns turn.Refused scenario sum = sum ≡ None
