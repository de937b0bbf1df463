-- A place for a seat owns what a box of the seat owns.
use mir.Syntax.{impl, tnil, dnil}
use mathlib.Core.List.{[]}
use denote.Signature.{Slot, plain}
use denote.RattleType.{RattleType}
use Rattle.std_alloc.proofs.BoxSteps.Form.{Bx}
use Rattle.std_alloc.specs.contracts.room.vacant.Vacant as RoomRow
use Rattle.std_heap.specs.contracts.Global as Heap
use Rattle.std_heap.specs.contracts.GlobalAllocator.TheImpl.{ghosts, dict}
use Rattle.std_heap.proofs.Global.TheLaws as heap
use Rattle.market_seat.specs.contracts.seat.Seat as Seat
use Rattle.market_seat.proofs.seat.Seat.TheLaws as seat
use Rattle.market_c.specs.contracts.held.Held as Held

abbrev pub E : Bx
E = record { row = Seat.the_row; laws = seat.the_row_laws; al = record { row = Heap.the_row; laws = heap.the_row_laws; g = ghosts; d = dict; drops = impl [] tnil dnil } }

-- a room for a seat, and a seat
abbrev pub V : RattleType
V = RoomRow.the_row Seat.the_row Heap.the_row ghosts

abbrev pub S : RattleType
S = Seat.the_row

-- what the functions are given
abbrev pub OfHeld : Slot 0
OfHeld = plain (λ _. Held.the_row)

abbrev pub OfSeat : Slot 0
OfSeat = plain (λ _. S)

abbrev pub OfRoom : Slot 0
OfRoom = plain (λ _. V)
