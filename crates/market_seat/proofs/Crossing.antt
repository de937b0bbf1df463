-- A seat may cross threads.
use denote.Param.Send.{IsSend, sendable}
use Rattle.std.proofs.Crossing.{crosses, frees, send as heap_send}
use Rattle.atomic_table.proofs.shared.Shared.TheSendSync.{the_send as shared_send}
use Rattle.atomic_table.proofs.send_lease.SendLease.TheSendSync.{the_send as lease_send}
use Rattle.market_lock.proofs.Crossing.{desk_send}
use Rattle.market_lock.proofs.Crossing.{office_sync, pass_send, placed_send}
use Rattle.market_lock.specs.contracts.office.Office as Office
use Rattle.market_seat.specs.contracts.seat.Seat as Seat

office_send : IsSend Office.the_row
office_send = search (crosses, sendable, desk_send, shared_send, lease_send, heap_send, frees) depth 60

pub seat_send : IsSend Seat.the_row
seat_send = search (crosses, sendable, office_send, office_sync, pass_send, placed_send) depth 60
