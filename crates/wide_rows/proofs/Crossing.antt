-- The rows of all levels may cross threads.
use denote.Param.Send.{IsSend, sendable}
use Rattle.std.proofs.Crossing.{crosses}
use Rattle.wide_rows.specs.contracts.levels.Levels as Levels

pub levels_send : IsSend Levels.the_row
levels_send = search (crosses, sendable) depth 40
