-- What a run of a script reads and writes.
use Rattle.std.specs.Prelude.{◌≡◌, ℕ, ◌<◌, ◌≤◌, List, length, Bool, true, false, Option}
use Rattle.std.specs.Io.KnownBytes.{Consumes, Appends}
use Rattle.market_types.specs.State.{State}
use Rattle.market_texts.specs.Script.{told, told_lines}
use Rattle.byte_devices.specs.Devices.{WritesFront}
use Rattle.line_engine.specs.Lines.{ended_lines}
use Rattle.line_engine.specs.Input.{longest_input}
use Rattle.market_prog.specs.declared.fault.RunFault.{RunFault}
use Rattle.market_prog.specs.declared.fault.RunFault.TheVariants.{Open, Read, TooLong, Write, Memory, HistoryFull}

-- The script was read, all replies to it were written, and `unread` of its lines were unread.
pub record Answers (start : State) (left left' taken taken' : Option (List ℕ)) (unread : ℕ) : Type 0 where
  pub script : List ℕ
  pub read : Consumes left left' script
  pub within : length script ≤ longest_input
  pub wrote : Appends taken taken' (told start script).text
  pub count : unread ≡ (told start script).unread

-- why a run stopped after its opening, by the bytes that it read and by whether its source and its sink have failed
abbrev pub CauseOf : RunFault → List ℕ → Bool → Bool → Type 0
CauseOf Read script source_failed sink_failed = (length script ≤ longest_input) × (source_failed ≡ true) × (sink_failed ≡ false)
CauseOf Write script source_failed sink_failed = (length script ≤ longest_input) × (source_failed ≡ false) × (sink_failed ≡ true)
CauseOf TooLong script source_failed sink_failed = (longest_input < length script) × (source_failed ≡ false) × (sink_failed ≡ false)
CauseOf Memory script source_failed sink_failed = (length script ≤ longest_input) × (source_failed ≡ false) × (sink_failed ≡ false)
CauseOf (Open fault) script source_failed sink_failed = ⊥
CauseOf HistoryFull script source_failed sink_failed = ⊥

-- The script was read, and a prefix of the replies to it was written.
pub record Stops (start : State) (left left' taken taken' : Option (List ℕ)) (source_failed sink_failed : Bool) (fault : RunFault) : Type 0 where
  pub script : List ℕ
  pub read : Consumes left left' script
  pub wrote : WritesFront taken taken' (told start script).text
  pub cause : CauseOf fault script source_failed sink_failed

-- The script was read, and the replies to all of its lines that an LF ended were written.
pub record HandsOver (start : State) (left left' taken taken' : Option (List ℕ)) : Type 0 where
  pub script : List ℕ
  pub read : Consumes left left' script
  pub wrote : Appends taken taken' (told_lines start (ended_lines script)).text
