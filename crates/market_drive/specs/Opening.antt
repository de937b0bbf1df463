-- What an opener has called, and a worker. No clause of a public call has these words (own).
use Rattle.std.specs.Prelude.{◌≡◌, ℕ, false, not, List, ◌++◌, map, Option, Some, None, Result, Err, All}
use Rattle.std.specs.List.{filter}
use Rattle.market_types.specs.Commands.{moves_seat}
use Rattle.market_types.specs.declared.command.Cmd.{Cmd}
use Rattle.market_types.specs.declared.reply.Entry.{Entry}
use Rattle.market_types.specs.declared.reply.Reply.{Reply}
use Rattle.edit_history.specs.declared.fault.CallFault.{CallFault}
use Rattle.market_lock.specs.Seen.{OfPass}
use Rattle.worker_main.specs.declared.report.Ended.{Ended}
use Rattle.worker_main.specs.Books.{IfIdle}

-- the commands of these that move no seat
abbrev pub still : List Cmd → List Cmd
still cmds = filter (λ (cmd : Cmd). not (moves_seat cmd)) cmds

-- none of these moves a seat
abbrev pub AreStill : List Cmd → Type 0
AreStill cmds = All (λ (cmd : Cmd). moves_seat cmd ≡ false) cmds

-- between the two the caller was answered each of the commands that moves no seat, in order, and where none of them moves one it made no
-- other call
abbrev pub HasGiven : List Cmd → OfPass → OfPass → Type 0
HasGiven cmds p q =
    (added : List Entry) × (q.mine ≡ p.mine ++ added)
    × (still (map (λ (e : Entry). e.call.cmd) added) ≡ still cmds)
    × (AreStill cmds → map (λ (e : Entry). e.call.cmd) added ≡ cmds)

-- where a worker ended because no work was left, the calls that it made between the two are such turns
abbrev pub HasTakenTurns : (ℕ → List Entry → Type 0) → OfPass → OfPass → Ended → Type 0
HasTakenTurns Turns p q ended = IfIdle ended ((added : List Entry) × (q.mine ≡ p.mine ++ added) × Turns p.seat added)

-- why a command was not answered, if it was asked and was not
abbrev pub fault_in : Option (Result Reply CallFault) → Option CallFault
fault_in (Some (Err fault)) = Some fault
fault_in answer = None
