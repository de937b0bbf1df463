-- Whose last call was a Join in vain (own).
use Rattle.std.specs.Prelude.{ℕ, ◌==◌, ◌&&◌, Bool, true, false, if◌then◌else◌, List}
use Rattle.std.specs.List.{fold}
use Rattle.market_types.specs.declared.command.Cmd.{Cmd}
use Rattle.market_types.specs.declared.command.Cmd.TheVariants.{Join}
use Rattle.market_types.specs.declared.reply.Entry.{Entry}
use Rattle.market_types.specs.declared.reply.Reply.{Reply}
use Rattle.market_types.specs.declared.reply.Reply.TheVariants.{Idle}

abbrev pub is_join : Cmd → Bool
is_join Join = true
is_join cmd = false

abbrev pub is_idle : Reply → Bool
is_idle Idle = true
is_idle reply = false

-- a Join that was answered 'idle'
abbrev pub is_vain : Entry → Bool
is_vain e = is_join e.call.cmd && is_idle e.reply

-- by its own entries: a seat called nothing, or last a Join in vain
abbrev pub joined_last : ℕ → List Entry → Bool
joined_last seat history = fold (λ (b : Bool) (e : Entry). if e.call.seat == seat then is_vain e else b) true history
