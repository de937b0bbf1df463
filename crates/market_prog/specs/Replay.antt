-- What a replay of a journal reads and writes.
use Rattle.std.specs.Prelude.{◌≡◌, ℕ, ◌≤◌, List, length, ◌++◌, codes, Bool, true, false, Option, Result, Ok, Err}
use Rattle.std.specs.Io.KnownBytes.{Consumes, Appends}
use Rattle.byte_devices.specs.Devices.{WritesFront}
use Rattle.line_engine.specs.Input.{IsTooLong}
use Rattle.journal_replay.specs.declared.verdict.Verdict.{Verdict}
use Rattle.journal_replay.specs.declared.verdict.Verdict.TheVariants.{Legal, BadHeader, BadJson, BadRecord, WrongReply}
use Rattle.journal_replay.specs.Verdicts.{limit_of, verdict}
use Rattle.journal_replay.specs.VerdictTexts.{verdict_text}
use Rattle.market_prog.specs.declared.fault.RunFault.{RunFault}
use Rattle.market_prog.specs.declared.fault.RunFault.TheVariants.{Open, Read, TooLong, Write, Memory, HistoryFull}

-- a verdict's text, with its LF
abbrev pub verdict_line : Verdict → List ℕ
verdict_line found = verdict_text found ++ codes "\n"

-- The journal was read, this is its verdict, and the verdict's line was written.
pub record Tells (left left' taken taken' : Option (List ℕ)) (found : Verdict) : Type 0 where
  pub journal : List ℕ
  pub read : Consumes left left' journal
  pub within : length journal ≤ limit_of journal
  pub is : found ≡ verdict journal
  pub wrote : Appends taken taken' (verdict_line found)

-- why no verdict was given, by the bytes that were read, and by whether the devices failed
abbrev pub TellingCauseOf : RunFault → List ℕ → Bool → Bool → Type 0
TellingCauseOf Read journal source_failed sink_failed = (length journal ≤ limit_of journal) × (source_failed ≡ true) × (sink_failed ≡ false)
TellingCauseOf Write journal source_failed sink_failed = (length journal ≤ limit_of journal) × (source_failed ≡ false) × (sink_failed ≡ true)
TellingCauseOf TooLong journal source_failed sink_failed = IsTooLong limit_of journal × (source_failed ≡ false) × (sink_failed ≡ false)
TellingCauseOf Memory journal source_failed sink_failed = (length journal ≤ limit_of journal) × (source_failed ≡ false) × (sink_failed ≡ false)
TellingCauseOf (Open fault) journal source_failed sink_failed = ⊥
TellingCauseOf HistoryFull journal source_failed sink_failed = ⊥

-- This much of the journal was read, and a prefix of the line of its verdict was written.
pub record StopsTelling (left left' taken taken' : Option (List ℕ)) (source_failed sink_failed : Bool) (fault : RunFault) : Type 0 where
  pub journal : List ℕ
  pub read : Consumes left left' journal
  pub wrote : WritesFront taken taken' (verdict_line (verdict journal))
  pub cause : TellingCauseOf fault journal source_failed sink_failed

-- why a verdict's line was not written: a write failed, or memory for the line was wanting (no public clause has this word)
abbrev pub IsTellingFault : RunFault → Bool → Type 0
IsTellingFault Write sink_failed = sink_failed ≡ true
IsTellingFault Memory sink_failed = sink_failed ≡ false
IsTellingFault Read sink_failed = ⊥
IsTellingFault TooLong sink_failed = ⊥
IsTellingFault (Open fault) sink_failed = ⊥
IsTellingFault HistoryFull sink_failed = ⊥

-- the exit status of `market replay`: 0 where the journal is legal, 1 where it is not, 3 after any fault
abbrev pub replay_status : Result Verdict RunFault → ℕ
replay_status (Ok (Legal entries)) = 0
replay_status (Ok BadHeader) = 1
replay_status (Ok (BadJson line)) = 1
replay_status (Ok (BadRecord line)) = 1
replay_status (Ok (WrongReply line due)) = 1
replay_status (Err fault) = 3
