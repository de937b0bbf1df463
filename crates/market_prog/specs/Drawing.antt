-- What drawing a journal reads and writes.
use Rattle.std.specs.Prelude.{◌≡◌, ℕ, ◌-◌, ◌/◌, ◌≤◌, min, max, List, [], length, Bool, Option}
use Rattle.std.specs.Io.KnownBytes.{Consumes, Appends}
use Rattle.byte_devices.specs.Devices.{WritesFront}
use Rattle.journal_replay.specs.declared.verdict.Verdict.{Verdict}
use Rattle.journal_replay.specs.declared.verdict.Verdict.TheVariants.{Legal, BadHeader, BadJson, BadRecord, WrongReply}
use Rattle.journal_replay.specs.Verdicts.{limit_of, verdict}
use Rattle.journal_chart.specs.Numbers.{Charted}
use Rattle.journal_chart.specs.Journals.{IsChartOf}
use Rattle.journal_chart.specs.Picture.{picture_text}
use Rattle.market_words.specs.declared.words.ChartOptions.{ChartOptions}
use Rattle.market_prog.specs.declared.fault.RunFault.{RunFault}
use Rattle.market_prog.specs.declared.fault.RunFault.TheVariants.{Open, Read, TooLong, Write, Memory, HistoryFull}
use Rattle.market_prog.specs.Replay.{TellingCauseOf}

-- at most how many columns a chart has: as many as are asked for, where all arenas together have no more than 1,792
abbrev pub columns_of : ChartOptions → ℕ
columns_of o = min o.width (1792 / max 1 (length o.arenas.items))

-- The text is the picture of the chart of the journal's history, from one entry on to another.
pub record IsPictureOf (o : ChartOptions) (journal text : List ℕ) : Type 0 where
  pub chart : Charted
  pub charted : IsChartOf (columns_of o) o.arenas.items o.from o.to journal chart
  pub is : text ≡ picture_text (o.from - 1) chart

-- the text that is written of a journal with this verdict: its picture where it is legal, and else nothing
abbrev pub IsDrawnOf : ChartOptions → List ℕ → Verdict → List ℕ → Type 0
IsDrawnOf o journal (Legal entries) text = IsPictureOf o journal text
IsDrawnOf o journal BadHeader text = text ≡ []
IsDrawnOf o journal (BadJson line) text = text ≡ []
IsDrawnOf o journal (BadRecord line) text = text ≡ []
IsDrawnOf o journal (WrongReply line due) text = text ≡ []

-- The journal was read, this is its verdict, and what is drawn of it was written.
pub record Draws (o : ChartOptions) (left left' taken taken' : Option (List ℕ)) (found : Verdict) : Type 0 where
  pub journal : List ℕ
  pub read : Consumes left left' journal
  pub within : length journal ≤ limit_of journal
  pub is : found ≡ verdict journal
  pub text : List ℕ
  pub drawn : IsDrawnOf o journal found text
  pub wrote : Appends taken taken' text

-- A prefix of the journal's picture was written.
pub record WritesPictureFront (o : ChartOptions) (journal : List ℕ) (taken taken' : Option (List ℕ)) : Type 0 where
  pub text : List ℕ
  pub drawn : IsPictureOf o journal text
  pub wrote : WritesFront taken taken' text

-- what is written before a fault: a prefix of the picture where a write failed, and else nothing
abbrev pub DrawsBefore : RunFault → ChartOptions → List ℕ → Option (List ℕ) → Option (List ℕ) → Type 0
DrawsBefore Write o journal taken taken' = WritesPictureFront o journal taken taken'
DrawsBefore Read o journal taken taken' = Appends taken taken' []
DrawsBefore TooLong o journal taken taken' = Appends taken taken' []
DrawsBefore Memory o journal taken taken' = Appends taken taken' []
DrawsBefore HistoryFull o journal taken taken' = Appends taken taken' []
DrawsBefore (Open fault) o journal taken taken' = Appends taken taken' []

-- This much of the journal was read, and its picture was not written whole.
pub record StopsDrawing (o : ChartOptions) (left left' taken taken' : Option (List ℕ)) (source_failed sink_failed : Bool) (fault : RunFault) : Type 0 where
  pub journal : List ℕ
  pub read : Consumes left left' journal
  pub wrote : DrawsBefore fault o journal taken taken'
  pub cause : TellingCauseOf fault journal source_failed sink_failed
