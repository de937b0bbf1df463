-- What is found of a journal, line by line (own).
use Rattle.std.specs.Prelude.{◌≡◌, ℕ, ◌+◌, ◌≤◌, nat_le, if◌then◌else◌, Bool, false, List, [], length, Option, Some, None, option_and_then, ⊤}
use Rattle.std.specs.Io.KnownBytes.{Consumes}
use Rattle.std.specs.Str.{bytes_eq}
use Rattle.serde_json.specs.Data.{Data}
use Rattle.market_types.specs.declared.reply.Reply.{Reply}
use Rattle.market_types.specs.State.{State}
use Rattle.market_types.specs.Step.{step}
use Rattle.market_texts.specs.Texts.{reply_text}
use Rattle.line_engine.specs.Lines.{Line, lines_of}
use Rattle.line_engine.specs.Rule.{LineRule, after}
use Rattle.line_engine.specs.Input.{CauseOf, longest_input}
use Rattle.line_engine.specs.declared.fault.InputFault.{InputFault}
use Rattle.line_engine.specs.declared.form.LineForm.{LineForm}
use Rattle.line_engine.specs.declared.form.LineForm.TheVariants.{Whole, WithoutLf, TooLong}
use Rattle.journal_replay.specs.declared.checker.Progress.{Progress}
use Rattle.journal_replay.specs.declared.checker.Progress.TheVariants.{Unopened, Replaying, Faulty}
use Rattle.journal_replay.specs.declared.header.Extent.{Extent}
use Rattle.journal_replay.specs.declared.header.Extent.TheVariants.{Limited, Endless}
use Rattle.journal_replay.specs.declared.reading.Opened.{Opened}
use Rattle.journal_replay.specs.declared.verdict.Verdict.{Verdict}
use Rattle.journal_replay.specs.declared.verdict.Verdict.TheVariants.{Legal, BadHeader, BadJson, BadRecord, WrongReply}
use Rattle.journal_replay.specs.Reading.{json_of, header_of, Recorded, entry_in}

-- the most bytes of a line
abbrev pub longest_line : ℕ
longest_line = 65536

-- the most entries of a journal that is limited
abbrev pub most_entries : ℕ
most_entries = 1048576

-- what a line is as JSON: one without its LF, and one that is too long, is none
abbrev pub json_by : LineForm → List ℕ → Option Data
json_by Whole bytes = json_of bytes
json_by WithoutLf bytes = None
json_by TooLong bytes = None

-- ---- one line more: the header is line 1, and after n entries the next line is line n + 2

abbrev pub after_header : Option Opened → Progress
after_header None = Faulty BadHeader Limited
after_header (Some o) = Replaying o.market 0 o.extent

-- an entry with this reply, where that one is due
abbrev pub after_reply : ℕ → Extent → List ℕ → Reply × State → Progress
after_reply entries extent reply due =
    if bytes_eq (reply_text due.0) reply then Replaying due.1 (entries + 1) extent
    else Faulty (WrongReply (entries + 2) (reply_text due.0)) extent

abbrev pub after_entry : State → ℕ → Extent → Option Recorded → Progress
after_entry market entries extent None = Faulty (BadRecord (entries + 2)) extent
after_entry market entries extent (Some e) = after_reply entries extent e.reply (step market e.seat e.cmd)

-- no entry may follow so many
abbrev pub is_full : Extent → ℕ → Bool
is_full Limited entries = nat_le most_entries entries
is_full Endless entries = false

abbrev pub after_record : State → ℕ → Extent → Data → Progress
after_record market entries extent d =
    if is_full extent entries then Faulty (BadRecord (entries + 2)) extent
    else after_entry market entries extent (entry_in (length market.seats) market.levels d)

abbrev pub after_json : State → ℕ → Extent → Option Data → Progress
after_json market entries extent None = Faulty (BadJson (entries + 2)) extent
after_json market entries extent (Some d) = after_record market entries extent d

-- the first fault stays
abbrev pub after_line : Progress → Line → Progress
after_line Unopened line = after_header (option_and_then header_of (json_by line.form line.bytes))
after_line (Replaying market entries extent) line = after_json market entries extent (json_by line.form line.bytes)
after_line (Faulty verdict extent) line = Faulty verdict extent

-- a journal's lines are answered by nothing
abbrev pub journal_rule : LineRule Progress
journal_rule = record { reply = λ _ _. []; next = after_line }

-- ---- the whole text

-- what is found at the end
abbrev pub verdict_of : Progress → Verdict
verdict_of Unopened = BadHeader
verdict_of (Replaying market entries extent) = Legal entries
verdict_of (Faulty verdict extent) = verdict

-- the verdict of a text
abbrev pub verdict : List ℕ → Verdict
verdict text = verdict_of (after journal_rule Unopened (lines_of longest_line text))

-- the most bytes of a journal of this extent: those of any input, or as many as 64 bits count
abbrev pub longest_journal : Extent → ℕ
longest_journal Limited = longest_input
longest_journal Endless = 9223372036854775808

-- the same by what its lines so far said; without a header it is limited
abbrev pub most_bytes : Progress → ℕ
most_bytes Unopened = longest_input
most_bytes (Replaying market entries extent) = longest_journal extent
most_bytes (Faulty verdict extent) = longest_journal extent

-- the most bytes that a text may have which is a journal, by its lines
abbrev pub limit_of : List ℕ → ℕ
limit_of text = most_bytes (after journal_rule Unopened (lines_of longest_line text))

-- The text was read, and this is its verdict.
pub record Finds (left left' : Option (List ℕ)) (found : Verdict) : Type 0 where
  pub text : List ℕ
  pub read : Consumes left left' text
  pub within : length text ≤ limit_of text
  pub is : found ≡ verdict text

-- Some text was read, and it was not found what it is, for this reason.
pub record StopsReading {F : Type 0} (left left' : Option (List ℕ)) (source_failed : Bool) (fault : InputFault F) : Type 0 where
  pub text : List ℕ
  pub read : Consumes left left' text
  pub cause : CauseOf (λ _. ⊤) limit_of fault text source_failed false

-- how many lines of a legal journal were taken
abbrev pub lines_taken : Progress → ℕ
lines_taken Unopened = 0
lines_taken (Replaying market entries extent) = entries + 1
lines_taken (Faulty verdict extent) = 0
