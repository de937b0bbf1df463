-- A place for a journal owns what a box of the journal owns.
use mir.Syntax.{impl, tnil, dnil}
use mathlib.Core.List.{[]}
use denote.Signature.{Slot, plain}
use denote.RattleType.{RattleType}
use Rattle.std_alloc.proofs.BoxSteps.Form.{Bx}
use Rattle.std_alloc.specs.contracts.room.vacant.Vacant as RoomRow
use Rattle.std_heap.specs.contracts.Global as Heap
use Rattle.std_heap.specs.contracts.GlobalAllocator.TheImpl.{ghosts, dict}
use Rattle.std_heap.proofs.Global.TheLaws as heap
use Rattle.journal_text.specs.contracts.unread.Unread as Unread
use Rattle.journal_text.proofs.unread.Unread.TheLaws as unread
use Rattle.market_c.specs.contracts.held_journal.HeldJournal as Held

abbrev pub E : Bx
E = record { row = Unread.the_row; laws = unread.the_row_laws; al = record { row = Heap.the_row; laws = heap.the_row_laws; g = ghosts; d = dict; drops = impl [] tnil dnil } }

-- a room for a journal, and a journal
abbrev pub V : RattleType
V = RoomRow.the_row Unread.the_row Heap.the_row ghosts

abbrev pub S : RattleType
S = Unread.the_row

-- what the functions are given
abbrev pub OfHeldJournal : Slot 0
OfHeldJournal = plain (λ _. Held.the_row)

abbrev pub OfUnread : Slot 0
OfUnread = plain (λ _. S)

abbrev pub OfRoom : Slot 0
OfRoom = plain (λ _. V)
