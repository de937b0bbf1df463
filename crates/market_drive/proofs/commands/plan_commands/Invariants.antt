use Rattle.std.proofs.Common.{◌≡◌, ◌++◌, take}
use Rattle.market_drive.specs.Making.{founding, requests}
use Rattle.market_drive.proofs.commands.plan_commands.Given as goal

abbrev pub invariant-loop-index : goal.invariant-loop-index
invariant-loop-index l = l.commands.items ≡ founding l.plan ++ take l.index (requests l.plan)
