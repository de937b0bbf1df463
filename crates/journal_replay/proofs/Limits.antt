-- The limit of a text is that of its lines which an LF ended: what none has ended tells nothing.
use Rattle.std.specs.Prelude.{◌≡◌, ℕ, nat_lt, Bool, true, false, List, [], ◌∷◌, length, take, Option, None, option_and_then, ⊤}
use Rattle.std.proofs.Common.{cond, refl, ap, sym, ◌∙◌, subst}
use Rattle.line_engine.specs.Lines.{Line, handed, whole_lines, last_line, unfinished_line, lines_of}
use Rattle.line_engine.specs.Rule.{after}
use Rattle.line_engine.specs.Input.{CauseOf, Stops, StopsAt, limit_by}
use Rattle.line_engine.specs.declared.fault.InputFault.{InputFault}
use Rattle.line_engine.specs.declared.fault.InputFault.TheVariants.{Read, TooLong as LongInput, Write, Memory, Taker}
use Rattle.line_engine.specs.declared.form.LineForm.TheVariants.{WithoutLf, TooLong}
use Rattle.line_engine.proofs.Folds.{after-append}
use Rattle.journal_replay.specs.declared.checker.Progress.{Progress}
use Rattle.journal_replay.specs.declared.checker.Progress.TheVariants.{Unopened, Replaying, Faulty}
use Rattle.journal_replay.specs.Growth.{json-keeps}
use Rattle.journal_replay.specs.Reading.{header_of}
use Rattle.journal_replay.specs.Verdicts.{StopsReading, after_header, after_line, journal_rule, json_by, limit_of, longest_line, most_bytes}
use Rattle.journal_replay.specs.Watched.{Seen, seen_by_line, watched_rule}

abbrev json_of_line : Line → Type 0
json_of_line line = json_by line.form line.bytes ≡ None

unread : (s : Progress) (line : Line) → json_of_line line → most_bytes (after_line s line) ≡ most_bytes s
unread Unopened line none = ap (λ d. most_bytes (after_header (option_and_then header_of d))) none
unread (Replaying market entries extent) line none = json-keeps market entries extent (json_by line.form line.bytes)
unread (Faulty verdict extent) line none = refl

abbrev cut_off : List ℕ → Line
cut_off bytes = record { bytes = bytes; form = TooLong }

abbrev unended : List ℕ → Line
unended bytes = record { bytes = bytes; form = WithoutLf }

either-none : (b : Bool) (x y : List ℕ) → json_of_line (cond b (cut_off x) (unended y))
either-none true x y = refl
either-none false x y = refl

last-tells-nothing : (s : Progress) (bytes : List ℕ) → most_bytes (after journal_rule s (last_line longest_line bytes)) ≡ most_bytes s
last-tells-nothing s [] = refl
last-tells-nothing s (byte ∷ bytes) =
    unread s (handed longest_line WithoutLf (byte ∷ bytes)) (either-none (nat_lt longest_line (length (byte ∷ bytes))) (take longest_line (byte ∷ bytes)) (byte ∷ bytes))

limit-same : (text : List ℕ) → limit_by journal_rule longest_line most_bytes Unopened text ≡ limit_of text
limit-same text =
    let whole = whole_lines longest_line text in
    let last = last_line longest_line (unfinished_line text) in
    sym (ap most_bytes (after-append journal_rule Unopened whole last) ∙ last-tells-nothing (after journal_rule Unopened whole) (unfinished_line text))

weaker : {F : Type 0} (P : F → Type 0) (limit : List ℕ → ℕ) (fault : InputFault F) (text : List ℕ) (failed : Bool) → CauseOf P limit fault text failed false → CauseOf (λ _. ⊤) limit fault text failed false
weaker P limit Read text failed c = c
weaker P limit LongInput text failed c = c
weaker P limit Write text failed c = c
weaker P limit Memory text failed c = c
weaker P limit (Taker fault) text failed c = (c.0, c.1, c.2, tt)

-- a watched journal's progress is that of the journal
pub watched-progress : {W : Type 0} (seen : Seen W) (now : Progress × W) (lines : List Line) → (after (watched_rule seen) now lines).0 ≡ after journal_rule now.0 lines
watched-progress seen now [] = refl
watched-progress seen now (line ∷ lines) = watched-progress seen (after_line now.0 line, seen_by_line seen now.0 line now.1) lines

limit-watched : {W : Type 0} (seen : Seen W) (start : Progress × W) (text : List ℕ) → start.0 ≡ Unopened
    → limit_by (watched_rule seen) longest_line (λ now. most_bytes now.0) start text ≡ limit_of text
limit-watched seen start text begun =
    ap most_bytes (watched-progress seen start (whole_lines longest_line text))
    ∙ ap (λ s. most_bytes (after journal_rule s (whole_lines longest_line text))) begun
    ∙ limit-same text

pub stops-reading : {W F : Type 0} (seen : Seen W) (stops : Progress × W → Line → F → Type 0) (start : Progress × W) (left left' taken taken' : Option (List ℕ)) (failed : Bool) (fault : InputFault F)
    → start.0 ≡ Unopened → Stops (watched_rule seen) longest_line (λ now. most_bytes now.0) stops start left left' taken taken' failed false fault → StopsReading left left' failed fault
stops-reading seen stops start left left' taken taken' failed fault begun h =
    record {
      text = h.input;
      read = h.read;
      cause = subst (λ (limit : List ℕ → ℕ). CauseOf (λ _. ⊤) limit fault h.input failed false) (λ i text. limit-watched seen start text begun i)
          (weaker (StopsAt (watched_rule seen) stops start (lines_of longest_line h.input)) (limit_by (watched_rule seen) longest_line (λ now. most_bytes now.0) start) fault h.input failed h.cause);
    }
