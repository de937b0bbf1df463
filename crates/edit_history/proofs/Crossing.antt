-- A chronicle may cross threads.
use denote.Param.Send.{IsSend, sendable}
use denote.Model.Local.{Parts, rows}
use denote.Model.Marks.{tied_send}
use denote.Model.Goals.{send, part_has, has_of}
use Rattle.std.proofs.Crossing.{crosses}
use Rattle.market_types.proofs.reply.Entry.TheSendSync.{the_send as entry_send}
use Rattle.market_core.proofs.Crossing.{market_send}
use Rattle.edit_history.specs.contracts.chronicle.Chronicle as Chronicle
use Rattle.edit_history.specs.contracts.past.Past as Past
use Rattle.edit_history.specs.contracts.past.Past.TheKnot as knot
use Rattle.edit_history.specs.declared.past.Past.TheDeep.{the_members, member-Past}

keeps : (p : Parts knot.frame) → ((j : the_members) → IsSend (rows knot.frame p j)) → (i : the_members) → IsSend (rows knot.frame (knot.step p) i)
keeps p all member-Past = has_of knot.frame send (knot.step p) member-Past (part_has send (knot.view-Past p) (search (crosses, sendable) depth 40))

-- a past reaches itself, so that its fields alone do not tell it
past_send : IsSend Past.the_row
past_send = tied_send knot.frame knot.step knot.sizes keeps member-Past

pub chronicle_send : IsSend Chronicle.the_row
chronicle_send = search (crosses, sendable, market_send, past_send, entry_send) depth 60
