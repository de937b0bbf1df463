-- What writing the journal of a script reads and writes.
use Rattle.std.specs.Prelude.{◌≡◌, ℕ, ◌≤◌, List, [], length, Bool, false, Option}
use Rattle.std.specs.Io.KnownBytes.{Consumes, Appends}
use Rattle.market_types.specs.State.{State}
use Rattle.market_texts.specs.Script.{told}
use Rattle.edit_history.specs.Chronicled.{Chronicled}
use Rattle.edit_history.specs.declared.fault.CallFault.TheVariants.{HistoryFull as NoPlace}
use Rattle.edit_history.specs.declared.keeping.Keeping.TheVariants.{Everything}
use Rattle.journal_replay.specs.Journal.{journal_text}
use Rattle.line_engine.specs.Lines.{lines_of}
use Rattle.line_engine.specs.Input.{StopsAt, longest_input}
use Rattle.market_prog.specs.declared.fault.RunFault.{RunFault}
use Rattle.market_prog.specs.declared.fault.RunFault.TheVariants.{Open, Read, TooLong, Write, Memory, HistoryFull}
use Rattle.market_prog.specs.Run.{CauseOf}
use Rattle.market_prog.specs.Explain.{WritesBefore}
use Rattle.market_prog.specs.Recorded.{history_of}
use Rattle.market_prog.specs.Recording.{recording_rule, script_places, StopsRecording}

-- the journal of a script
abbrev pub journal_of : State → List ℕ → List ℕ
journal_of start script = journal_text start (history_of start script)

-- The script was read, its journal was written, and `unread` of its lines were unread.
pub record Journals (start : State) (left left' taken taken' : Option (List ℕ)) (unread : ℕ) : Type 0 where
  pub script : List ℕ
  pub read : Consumes left left' script
  pub within : length script ≤ longest_input
  pub wrote : Appends taken taken' (journal_of start script)
  pub count : unread ≡ (told start script).unread

-- the chronicle of a script before its first line
abbrev pub unwritten : State → Chronicled
unwritten start = record { start = start; market = start; log = []; places = script_places; from = 0; keeping = Everything }

-- why a journal was not written: the history is full at one of the lines, or what stops a run too
abbrev pub JournalCauseOf : RunFault → State → List ℕ → Bool → Bool → Type 0
JournalCauseOf HistoryFull start script source_failed sink_failed =
    (length script ≤ longest_input) × (source_failed ≡ false) × (sink_failed ≡ false) × StopsAt recording_rule StopsRecording (unwritten start, 0) (lines_of 256 script) NoPlace
JournalCauseOf (Open fault) start script source_failed sink_failed = CauseOf (Open fault) script source_failed sink_failed
JournalCauseOf Read start script source_failed sink_failed = CauseOf Read script source_failed sink_failed
JournalCauseOf TooLong start script source_failed sink_failed = CauseOf TooLong script source_failed sink_failed
JournalCauseOf Write start script source_failed sink_failed = CauseOf Write script source_failed sink_failed
JournalCauseOf Memory start script source_failed sink_failed = CauseOf Memory script source_failed sink_failed

-- The script was read, and its journal was not written whole.
pub record StopsJournaling (start : State) (left left' taken taken' : Option (List ℕ)) (source_failed sink_failed : Bool) (fault : RunFault) : Type 0 where
  pub script : List ℕ
  pub read : Consumes left left' script
  pub wrote : WritesBefore fault taken taken' (journal_of start script)
  pub cause : JournalCauseOf fault start script source_failed sink_failed
