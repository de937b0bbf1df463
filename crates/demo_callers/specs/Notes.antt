-- What a caller notes of the calls that it was answered (own).
use Rattle.std.specs.Prelude.{◌==◌, if◌then◌else◌, ◌++◌, ℕ, Bool, List, [], flat_map, codes}
use Rattle.market_types.specs.declared.command.Cmd.{Cmd}
use Rattle.market_types.specs.declared.reply.Entry.{Entry}
use Rattle.market_types.specs.declared.reply.Reply.{Reply}
use Rattle.market_texts.specs.Texts.{cmd_text, reply_text}

-- its lines, and that there was no memory for one of them
pub record Noted : Type 0 where
  pub text : List ℕ
  pub torn : Bool

-- the line of a call and its reply, in a market of three levels
abbrev pub line_of : Cmd → Reply → List ℕ
line_of cmd reply = cmd_text 3 cmd ++ (codes ": " ++ (reply_text reply ++ codes "\n"))

-- the line of an entry of this seat
abbrev pub note_of : ℕ → Entry → List ℕ
note_of seat e = if e.call.seat == seat then line_of e.call.cmd e.reply else []

-- the lines of the entries of one seat, in order
abbrev pub notes_of : ℕ → List Entry → List ℕ
notes_of seat log = flat_map (note_of seat) log
