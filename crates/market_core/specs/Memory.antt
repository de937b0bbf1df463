-- When a command may need memory.
use Rattle.std.specs.Prelude.{Bool, true, false}
use Rattle.market_types.specs.declared.command.Cmd.{Cmd}
use Rattle.market_types.specs.declared.command.Cmd.TheVariants.{Open, Control, Lists}
use Rattle.market_types.specs.declared.reply.Reply.{Reply}
use Rattle.market_types.specs.declared.reply.Reply.TheVariants.{Refused}

-- the command may take memory
abbrev pub takes_memory : Cmd → Bool
takes_memory (Open slots reserved level) = true
takes_memory (Control value) = true
takes_memory Lists = true
takes_memory _ = false

-- the reply is a refusal
abbrev pub is_refusal : Reply → Bool
is_refusal (Refused fault) = true
is_refusal _ = false
