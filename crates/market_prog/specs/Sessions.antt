-- How a script's lines are answered, one after the other (own).
use Rattle.std.specs.Prelude.{ℕ, ◌+◌, Bool, true, false, List, [], if◌then◌else◌, None}
use Rattle.market_types.specs.State.{State}
use Rattle.market_texts.specs.Script.{Told, nothing, is_silent, answer_of, answer_to}
use Rattle.line_engine.specs.Rule.{LineRule}
use Rattle.line_engine.specs.declared.form.LineForm.{LineForm}
use Rattle.line_engine.specs.declared.form.LineForm.TheVariants.{Whole, WithoutLf, TooLong}

-- the most bytes of a line that is read
abbrev pub longest_line : ℕ
longest_line = 256

-- the answer to a line by its form: of one that is too long, by its first bytes
abbrev pub answer_by : LineForm → State → List ℕ → Told
answer_by Whole s bytes = answer_of s bytes
answer_by WithoutLf s bytes = answer_of s bytes
answer_by TooLong s bytes = if is_silent bytes then nothing s else answer_to s None

-- by the market and the number of unread lines before it, how a line is taken; it is answered where its session answers
abbrev pub script_rule : Bool → LineRule (State × ℕ)
script_rule answers = record {
  reply = λ now line. if answers then (answer_by line.form now.0 line.bytes).text else [];
  next = λ now line. ((answer_by line.form now.0 line.bytes).last, now.1 + (answer_by line.form now.0 line.bytes).unread);
}

-- only the first bytes of the line were handed on
abbrev pub is_too_long : LineForm → Bool
is_too_long TooLong = true
is_too_long Whole = false
is_too_long WithoutLf = false
