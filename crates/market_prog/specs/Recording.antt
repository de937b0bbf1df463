-- How a script's lines are recorded, one after the other (own).
use Rattle.std.specs.Prelude.{ℕ, ◌+◌, List, [], ◌++◌, length, if◌then◌else◌, Option, None, Some, Result, Ok, Err, ⊤}
use Rattle.market_types.specs.declared.command.Cmd.{Cmd}
use Rattle.market_types.specs.declared.reply.Entry.{Entry}
use Rattle.market_types.specs.declared.reply.OpenFault.{OpenFault}
use Rattle.market_types.specs.State.{State}
use Rattle.market_types.specs.History.{calls_of, state_after}
use Rattle.market_texts.specs.Reading.{line_reading}
use Rattle.edit_history.specs.Chronicled.{Chronicled, market_of}
use Rattle.edit_history.specs.Places.{LacksPlaces}
use Rattle.edit_history.specs.declared.fault.CallFault.{CallFault}
use Rattle.edit_history.specs.declared.fault.CallFault.TheVariants.{Memory, HistoryFull}
use Rattle.line_engine.specs.Lines.{Line}
use Rattle.line_engine.specs.Rule.{LineRule}
use Rattle.line_engine.specs.declared.form.LineForm.{LineForm}
use Rattle.line_engine.specs.declared.form.LineForm.TheVariants.{Whole, WithoutLf, TooLong}
use Rattle.market_prog.specs.Sessions.{answer_by, is_too_long}
use Rattle.market_prog.specs.Recorded.{entries_of}

-- how many places the history of a script has
abbrev pub script_places : ℕ
script_places = 1048576

-- the history with these entries more, whose calls the market has made
abbrev pub lengthened : Chronicled → List Entry → Chronicled
lengthened c entries = record c { market = state_after c.market (calls_of entries); log = c.log ++ entries }

-- the entry of a line by its form: one that is too long has none
abbrev pub entries_by : LineForm → State → List ℕ → List Entry
entries_by Whole s bytes = entries_of s bytes
entries_by WithoutLf s bytes = entries_of s bytes
entries_by TooLong s bytes = []

-- by the market with its history and the number of unread lines before it, what a line makes of them; it is not answered
abbrev pub recording_rule : LineRule (Chronicled × ℕ)
recording_rule = record {
  reply = λ now line. [];
  next = λ now line. (lengthened now.0 (entries_by line.form (market_of now.0) line.bytes), now.1 + (answer_by line.form (market_of now.0) line.bytes).unread);
}

-- the call that a line spells, by its form
abbrev pub call_by : LineForm → State → List ℕ → Option (ℕ × Cmd)
call_by form s bytes = if is_too_long form then None else line_reading (length s.seats) s.levels bytes

-- a call is not recorded: where the history is full, it lacks places for it
abbrev pub IsUnrecorded : Chronicled → Option (ℕ × Cmd) → CallFault → Type 0
IsUnrecorded c call Memory = ⊤
IsUnrecorded c (Some call) HistoryFull = LacksPlaces c call.0 call.1
IsUnrecorded c None HistoryFull = ⊥

-- so with the call of a line
abbrev pub StopsRecording : Chronicled × ℕ → Line → CallFault → Type 0
StopsRecording now line fault = IsUnrecorded now.0 (call_by line.form (market_of now.0) line.bytes) fault

-- the market that a chronicle was opened with, or why none was
abbrev pub start_of : Result Chronicled OpenFault → Result State OpenFault
start_of (Ok c) = Ok c.start
start_of (Err fault) = Err fault
