-- Threads may share an office by `&`, and it, its passes and placed workers may cross threads.
use denote.Param.Send.{IsSend, IsSync, sendable, recorded_sync, struct_sync}
use denote.Struct.Struct.{Struct}
use denote.Struct.Declared.{shape}
use Rattle.std.proofs.Crossing.{crosses, frees, send as heap_send, sync as heap_sync}
use Rattle.atomic_table.proofs.shared.Shared.TheSendSync.{the_sync as shared_sync}
use Rattle.atomic_table.proofs.send_lease.SendLease.TheSendSync.{the_sync as lease_sync}
use Rattle.atomic_table.proofs.shared.Seat.TheSendSync.{the_send as seat_send}
use Rattle.edit_history.proofs.Crossing.{chronicle_send}
use Rattle.market_lock.specs.contracts.desk.Desk as Desk
use Rattle.market_lock.specs.contracts.office.Office as Office
use Rattle.market_lock.specs.contracts.office.Office.TheInside as Inside
use Rattle.market_lock.specs.contracts.pass.Pass as Pass
use Rattle.market_lock.specs.contracts.pass.Placed as Placed

pub desk_send : IsSend Desk.the_row
desk_send = search (crosses, sendable, chronicle_send) depth 60

inside_sync : IsSync Inside.the_row
inside_sync =
    let T = Inside.the_type in
    recorded_sync (Struct (shape T)) T.D T.to T.to_one (struct_sync (shape T) (search (sendable, desk_send, shared_sync, lease_sync, heap_sync, heap_send, frees) depth 40, (search sendable depth 20, tt)))

pub office_sync : IsSync Office.the_row
office_sync = search (sendable, inside_sync) depth 40

pub pass_send : IsSend Pass.the_row
pass_send = search (crosses, sendable, desk_send, seat_send) depth 60

pub placed_send : IsSend Placed.the_row
placed_send = search (crosses, sendable, desk_send, seat_send) depth 60
