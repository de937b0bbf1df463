-- The history of a script's lines: the calls that they spell, each with the reply that is due (own).
use Rattle.std.specs.Prelude.{ℕ, List, [], ◌∷◌, ◌++◌, length, nat_lt, if◌then◌else◌, Option, None, Some}
use Rattle.market_types.specs.declared.command.Cmd.{Cmd}
use Rattle.market_types.specs.declared.reply.Entry.{Entry}
use Rattle.market_types.specs.State.{State}
use Rattle.market_types.specs.Step.{step}
use Rattle.market_texts.specs.Reading.{line_reading}
use Rattle.market_texts.specs.Script.{is_silent, script_lines, answer_of}
use Rattle.edit_history.specs.Chronicled.{entry}

-- the entry of a call, with its due reply
abbrev pub entries_to : State → Option (ℕ × Cmd) → List Entry
entries_to s None = []
entries_to s (Some call) = entry call.0 call.1 (step s call.0 call.1).0 ∷ []

-- the entry of a line: a silent line has none, nor has one that is unread
unfoldable pub entries_of : State → List ℕ → List Entry
entries_of s line =
    if is_silent line then []
    else if nat_lt 256 (length line) then []
    else entries_to s (line_reading (length s.seats) s.levels line)

abbrev pub entries_of_lines : State → List (List ℕ) → List Entry
entries_of_lines s [] = []
entries_of_lines s (line ∷ lines) = entries_of s line ++ entries_of_lines (answer_of s line).last lines

-- the history that a script makes from this market on
unfoldable pub history_of : State → List ℕ → List Entry
history_of s script = entries_of_lines s (script_lines script)
