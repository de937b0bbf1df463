-- A market may cross threads.
use denote.Param.Send.{IsSend, sendable}
use Rattle.std.proofs.Crossing.{crosses}
use Rattle.arena_store.proofs.Crossing.{arenas_send}
use Rattle.market_core.specs.contracts.market.Market as Market

pub market_send : IsSend Market.the_row
market_send = search (crosses, sendable, arenas_send) depth 60
