-- The arenas of a market may cross threads.
use denote.Param.Send.{IsSend, sendable}
use Rattle.std.proofs.Crossing.{crosses}
use Rattle.wide_rows.proofs.Crossing.{levels_send}
use Rattle.arena_store.specs.contracts.store.Arenas as Arenas

pub arenas_send : IsSend Arenas.the_row
arenas_send = search (crosses, sendable, levels_send) depth 40
