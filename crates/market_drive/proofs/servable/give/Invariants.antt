use Rattle.std.proofs.Common.{◌≡◌, drop}
use Rattle.market_types.specs.History.{state_after}
use Rattle.market_drive.specs.Servable.{calls_of_first}
use Rattle.market_drive.proofs.servable.give.Given as goal

abbrev pub invariant-loop-cmd : goal.invariant-loop-cmd
invariant-loop-cmd l =
    state_after l.market (calls_of_first (drop l.cmd-index l.commands)) ≡ state_after l.fn.market (calls_of_first l.commands)
