-- Lists of commands, what they are answered, and what one seat sees of them.
use Rattle.std.specs.Prelude.{◌≡◌, ℕ, ◌==◌, List, [], ◌∷◌, map, Option, Some, None}
use Rattle.std.specs.List.{filter, fold}
use Rattle.market_types.specs.declared.command.Call.{Call}
use Rattle.market_types.specs.declared.reply.Entry.{Entry}
use Rattle.market_types.specs.declared.reply.Reply.{Reply}
use Rattle.market_types.specs.declared.reply.Reply.TheVariants.{Placed, Recalled, Left}
use Rattle.market_types.specs.State.{State}
use Rattle.market_types.specs.Step.{step}

-- the replies to calls in order
abbrev pub replies_to : State → List Call → List Reply
replies_to s [] = []
replies_to s (c ∷ calls) = (step s c.seat c.cmd).0 ∷ replies_to (step s c.seat c.cmd).1 calls

-- the market after them
abbrev pub state_after : State → List Call → State
state_after s [] = s
state_after s (c ∷ calls) = state_after (step s c.seat c.cmd).1 calls

-- the calls of a history
abbrev pub calls_of : List Entry → List Call
calls_of history = map (λ (e : Entry). e.call) history

-- the replies of a history are those that its calls get from this opening
abbrev pub IsLegal : State → List Entry → Type 0
IsLegal start history = map (λ (e : Entry). e.reply) history ≡ replies_to start (calls_of history)

-- the entries of one seat, in order
abbrev pub of_seat : ℕ → List Entry → List Entry
of_seat seat history = filter (λ (e : Entry). e.call.seat == seat) history

-- where a seat is after a reply to it
abbrev pub place_after : Option ℕ → Reply → Option ℕ
place_after place (Placed a) = Some a
place_after place (Recalled a) = None
place_after place (Left a) = None
place_after place _ = place

-- the arena that a seat is placed at after a history, by its own entries alone
abbrev pub place_in : ℕ → List Entry → Option ℕ
place_in seat history = fold (λ place (e : Entry). place_after place e.reply) None (of_seat seat history)
