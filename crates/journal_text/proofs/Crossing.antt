-- A journal's text may cross threads.
use denote.Param.Send.{IsSend, sendable}
use Rattle.std.proofs.Crossing.{crosses}
use Rattle.market_types.proofs.reply.Entry.TheSendSync.{the_send as entry_send}
use Rattle.journal_text.specs.contracts.unread.Unread as Unread

pub unread_send : IsSend Unread.the_row
unread_send = search (crosses, sendable, entry_send) depth 60
