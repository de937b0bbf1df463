-- What some bytes of an input do to what takes its lines. These words tie the engine's parts together; no public clause
-- has them (own).
use Rattle.std.specs.Prelude.{◌≡◌, ℕ, ◌+◌, ◌<◌, ◌≤◌, List, [], ◌++◌, length, take, Bool, true, false, Option}
use Rattle.std.specs.Io.KnownBytes.{Appends, Consumes}
use Rattle.line_engine.specs.Lines.{whole_lines, unfinished_line}
use Rattle.line_engine.specs.Rule.{LineRule, after, replies_to}
use Rattle.line_engine.specs.Input.{CauseOf}
use Rattle.line_engine.specs.declared.fault.InputFault.{InputFault}
use Rattle.line_engine.specs.declared.fault.InputFault.TheVariants.{Read, TooLong, Write, Memory, Taker}

-- Of the input, the lines that an LF ends were taken, which led from `start` to `now`; `waiting` is what is not handed
-- over of their replies, and `unfinished` the first bytes of what no LF has ended.
pub record Takes {S : Type 0} (rule : LineRule S) (longest : ℕ) (start now : S) (taken taken' : Option (List ℕ)) (input waiting unfinished : List ℕ) : Type 0 where
  pub out : List ℕ
  pub wrote : Appends taken taken' out
  pub replies : replies_to rule start (whole_lines longest input) ≡ out ++ waiting
  pub state : now ≡ after rule start (whole_lines longest input)
  pub kept : unfinished ≡ take (longest + 1) (unfinished_line input)

-- why a piece is not handed on, by how many bytes it may have: the read failed and gave none, or it has more
abbrev pub IsReadFault : {F : Type 0} → InputFault F → ℕ → List ℕ → Bool → Type 0
IsReadFault Read room piece source_failed = (piece ≡ []) × (source_failed ≡ true)
IsReadFault TooLong room piece source_failed = (room < length piece) × (source_failed ≡ false)
IsReadFault Write room piece source_failed = ⊥
IsReadFault Memory room piece source_failed = ⊥
IsReadFault (Taker fault) room piece source_failed = ⊥

-- The input might have `room` bytes more, the piece came out of the source, and the run stops.
pub record BreaksOff {F : Type 0} (left left' : Option (List ℕ)) (room : ℕ) (source_failed : Bool) (fault : InputFault F) : Type 0 where
  pub piece : List ℕ
  pub read : Consumes left left' piece
  pub why : IsReadFault fault room piece source_failed

-- a fault after a piece of an input that is not too long, whatever its limit
abbrev pub IsPieceFault : {F : Type 0} → (F → Type 0) → InputFault F → Bool → Type 0
IsPieceFault stops fault sink_failed = (limit : List ℕ → ℕ) (input : List ℕ) → length input ≤ limit input → CauseOf stops limit fault input false sink_failed
