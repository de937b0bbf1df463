-- What is read of an input, what is written, and why it stops (own).
use Rattle.std.specs.Prelude.{◌≡◌, ℕ, ◌<◌, ◌≤◌, List, ◌∷◌, ◌++◌, length, Bool, true, false, Option, ⊤}
use Rattle.std.specs.Io.KnownBytes.{Consumes, Appends}
use Rattle.byte_devices.specs.Devices.{WritesFront}
use Rattle.line_engine.specs.Lines.{Line, lines_of, whole_lines}
use Rattle.line_engine.specs.Rule.{LineRule, after, replies_to}
use Rattle.line_engine.specs.declared.fault.InputFault.{InputFault}
use Rattle.line_engine.specs.declared.fault.InputFault.TheVariants.{Read, TooLong, Write, Memory, Taker}

-- the most bytes of an input where its taker names no other limit
abbrev pub longest_input : ℕ
longest_input = 268435456

-- the most bytes that an input may have when so much of it was read: what the state says to which its whole lines lead
abbrev pub limit_by : {S : Type 0} → LineRule S → ℕ → (S → ℕ) → S → List ℕ → ℕ
limit_by rule longest most_bytes start input = most_bytes (after rule start (whole_lines longest input))

-- The input was read, its lines led from `start` to `end`, and their replies were written.
pub record TakesAll {S : Type 0} (rule : LineRule S) (longest : ℕ) (most_bytes : S → ℕ) (start end : S) (left left' taken taken' : Option (List ℕ)) : Type 0 where
  pub input : List ℕ
  pub read : Consumes left left' input
  pub within : length input ≤ most_bytes end
  pub wrote : Appends taken taken' (replies_to rule start (lines_of longest input))
  pub state : end ≡ after rule start (lines_of longest input)

-- The taker stopped at one of the lines, after it had taken all before.
pub record StopsAt {S F : Type 0} (rule : LineRule S) (stops : S → Line → F → Type 0) (start : S) (lines : List Line) (fault : F) : Type 0 where
  pub before : List Line
  pub line : Line
  pub more : List Line
  pub are : lines ≡ before ++ line ∷ more
  pub why : stops (after rule start before) line fault

-- The last piece made the input longer than the limit that stood before that piece. `limit` tells it by what was read.
pub record IsTooLong (limit : List ℕ → ℕ) (input : List ℕ) : Type 0 where
  pub front : List ℕ
  pub piece : List ℕ
  pub are : input ≡ front ++ piece
  pub within : length front ≤ limit front
  pub above : limit front < length input

-- why an input was not taken to its end, by how the taker stops, by the limit of what is read, by the bytes that were read, and
-- by whether the devices failed
abbrev pub CauseOf : {F : Type 0} → (F → Type 0) → (List ℕ → ℕ) → InputFault F → List ℕ → Bool → Bool → Type 0
CauseOf stops limit Read input source_failed sink_failed = (length input ≤ limit input) × (source_failed ≡ true) × (sink_failed ≡ false)
CauseOf stops limit TooLong input source_failed sink_failed = IsTooLong limit input × (source_failed ≡ false) × (sink_failed ≡ false)
CauseOf stops limit Write input source_failed sink_failed = (length input ≤ limit input) × (source_failed ≡ false) × (sink_failed ≡ true)
CauseOf stops limit Memory input source_failed sink_failed = (length input ≤ limit input) × (source_failed ≡ false) × (sink_failed ≡ false)
CauseOf stops limit (Taker fault) input source_failed sink_failed = (length input ≤ limit input) × (source_failed ≡ false) × (sink_failed ≡ false) × stops fault

-- lines were not taken: running out of memory, or the taker's fault
abbrev pub IsLineFault : {F : Type 0} → (F → Type 0) → InputFault F → Type 0
IsLineFault stops Memory = ⊤
IsLineFault stops (Taker fault) = stops fault
IsLineFault stops Read = ⊥
IsLineFault stops TooLong = ⊥
IsLineFault stops Write = ⊥

-- The input was read up to some byte, and a prefix of the replies to it was written.
pub record Stops {S F : Type 0} (rule : LineRule S) (longest : ℕ) (most_bytes : S → ℕ) (stops : S → Line → F → Type 0) (start : S) (left left' taken taken' : Option (List ℕ)) (source_failed sink_failed : Bool) (fault : InputFault F) : Type 0 where
  pub input : List ℕ
  pub read : Consumes left left' input
  pub wrote : WritesFront taken taken' (replies_to rule start (lines_of longest input))
  pub cause : CauseOf (StopsAt rule stops start (lines_of longest input)) (limit_by rule longest most_bytes start) fault input source_failed sink_failed

-- The input was read up to some byte, and the replies to all lines that an LF ended were written.
pub record HandsOver {S : Type 0} (rule : LineRule S) (longest : ℕ) (start : S) (left left' taken taken' : Option (List ℕ)) : Type 0 where
  pub input : List ℕ
  pub read : Consumes left left' input
  pub wrote : Appends taken taken' (replies_to rule start (whole_lines longest input))
