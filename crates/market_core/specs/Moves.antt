-- What a reply says of the seat that got it.
use Rattle.std.specs.Prelude.{◌≡◌, ◌⊎◌, ℕ, Bool, true, false, Option, Some, None}
use Rattle.market_types.specs.declared.command.Cmd.{Cmd}
use Rattle.market_types.specs.declared.command.Cmd.TheVariants.{Join, Stay, Leave}
use Rattle.market_types.specs.declared.reply.Fault.TheVariants.{AlreadyPlaced, NotPlaced}
use Rattle.market_types.specs.declared.reply.Reply.{Reply}
use Rattle.market_types.specs.declared.reply.Reply.TheVariants.{Placed, Idle, Stays, Recalled, Left, Refused}

-- the reply places its seat, or takes it from its arena
abbrev pub moves : Reply → Bool
moves (Placed a) = true
moves (Recalled a) = true
moves (Left a) = true
moves _ = false

-- what a call may be answered, by the arena that its seat is placed at
abbrev pub Answers : Option ℕ → Cmd → Reply → Type 0
Answers None Join reply = (reply ≡ Idle) ⊎ ((a : ℕ) × (reply ≡ Placed a))
Answers (Some a) Join reply = reply ≡ Refused (AlreadyPlaced a)
Answers None Stay reply = reply ≡ Refused NotPlaced
Answers (Some a) Stay reply = (reply ≡ Stays a) ⊎ (reply ≡ Recalled a)
Answers None Leave reply = reply ≡ Refused NotPlaced
Answers (Some a) Leave reply = reply ≡ Left a
Answers arena cmd reply = moves reply ≡ false
