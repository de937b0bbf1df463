-- A place for a journal may go to another thread: what it owns names no key.
use base.Shift.{Keyless}
use mir.Raw.{raw}
use denote.Memory.{lone}
use denote.RawPtr.{Ptr}
use denote.Struct.Struct.{exits_of}
use denote.Struct.Owning.{shape, fields, to}
use denote.Param.Send.{IsSend, AllSend, owning_send, struct_send, sendable}
use Rattle.std.specs.Prelude.{Option, Some, None}
use Rattle.std.specs.Global.{Global}
use Rattle.std.proofs.Crossing as heap
use Rattle.std_alloc.proofs.SendSync.{quiet, lies}
use Rattle.std_heap.proofs.Global.TheSendSync as handle
use Rattle.journal_text.specs.contracts.unread.Unread as Unread
use Rattle.journal_text.proofs.Crossing.{unread_send as unread}
use Rattle.market_c.specs.HeldJournal.{journal_owns}
use Rattle.market_c.specs.contracts.held_journal.HeldJournal.{the_row, the_type}

keyless : (a : Global) (p : Ptr) (m : Option Unread.the_row.Denot) → Keyless (journal_owns a p m)
keyless a p (Some m) = (lies Unread.the_row unread p m, heap.frees.frees a (raw (lone Unread.the_row.mir)) p)
keyless a p None = tt

pub send : IsSend the_row
send =
    let all : AllSend (fields the_type) = (search sendable, (handle.the_field_send, tt)) in
    owning_send the_type all (λ d. keyless d.alloc d.ptr d.unread)
    (λ k. quiet (to the_type) (exits_of k (fields the_type)) ((struct_send (shape the_type) all).leaving k))
