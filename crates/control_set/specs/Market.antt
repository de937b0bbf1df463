-- A market's controls, and what it answers about them.
use Rattle.std.specs.Prelude.{ℕ, Result, Ok, Err}
use Rattle.market_types.specs.State.{State}
use Rattle.market_types.specs.declared.reply.Fault.{Fault}
use Rattle.market_types.specs.declared.reply.Reply.{Reply}
use Rattle.market_types.specs.declared.reply.Reply.TheVariants.{Controlled, Uncontrolled, Refused}
use Rattle.control_set.specs.Controls.{Controls}

-- the controls of a market
abbrev pub controls_of : State → Controls
controls_of s = record { living = s.controls; next = s.next_control }

-- the market with other controls
abbrev pub with_controls : State → Controls → State
with_controls s c = record s { controls = c.living; next_control = c.next }

-- what a market answers that makes a control
abbrev pub control_reply : Result ℕ Fault → Reply
control_reply (Ok number) = Controlled number
control_reply (Err fault) = Refused fault

-- what a market answers that removes one
abbrev pub uncontrol_reply : Result (Unit {0}) Fault → Reply
uncontrol_reply (Ok done) = Uncontrolled
uncontrol_reply (Err fault) = Refused fault
