-- What explaining the market of a script reads and writes.
use Rattle.std.specs.Prelude.{◌≡◌, ℕ, ◌≤◌, List, [], length, Bool, Option}
use Rattle.std.specs.Io.KnownBytes.{Consumes, Appends}
use Rattle.market_types.specs.State.{State}
use Rattle.market_texts.specs.Script.{told}
use Rattle.byte_devices.specs.Devices.{WritesFront}
use Rattle.line_engine.specs.Input.{longest_input}
use Rattle.explainer.specs.Explanation.{explanation_text}
use Rattle.market_prog.specs.declared.fault.RunFault.{RunFault}
use Rattle.market_prog.specs.declared.fault.RunFault.TheVariants.{Open, Read, TooLong, Write, Memory, HistoryFull}
use Rattle.market_prog.specs.Run.{CauseOf}

-- the explanation of the market after a script
abbrev pub explanation_after : State → List ℕ → List ℕ
explanation_after start script = explanation_text (told start script).last

-- The script was read, the explanation of the market after it was written, and `unread` of its lines were unread.
pub record Explains (start : State) (left left' taken taken' : Option (List ℕ)) (unread : ℕ) : Type 0 where
  pub script : List ℕ
  pub read : Consumes left left' script
  pub within : length script ≤ longest_input
  pub wrote : Appends taken taken' (explanation_after start script)
  pub count : unread ≡ (told start script).unread

-- what is written before a fault: a prefix of the text where a write failed or there was no memory, and else nothing
abbrev pub WritesBefore : RunFault → Option (List ℕ) → Option (List ℕ) → List ℕ → Type 0
WritesBefore Write taken taken' text = WritesFront taken taken' text
WritesBefore Memory taken taken' text = WritesFront taken taken' text
WritesBefore Read taken taken' text = Appends taken taken' []
WritesBefore TooLong taken taken' text = Appends taken taken' []
WritesBefore HistoryFull taken taken' text = Appends taken taken' []
WritesBefore (Open fault) taken taken' text = Appends taken taken' []

-- The script was read, and the explanation of the market after it was not written whole.
pub record StopsExplaining (start : State) (left left' taken taken' : Option (List ℕ)) (source_failed sink_failed : Bool) (fault : RunFault) : Type 0 where
  pub script : List ℕ
  pub read : Consumes left left' script
  pub wrote : WritesBefore fault taken taken' (explanation_after start script)
  pub cause : CauseOf fault script source_failed sink_failed
