-- What a watcher makes of a journal's entries (own).
use Rattle.std.specs.Prelude.{◌≡◌, ℕ, ◌≤◌, if◌then◌else◌, List, [], ◌∷◌, length, Option, Some, None}
use Rattle.std.specs.Io.KnownBytes.{Consumes}
use Rattle.serde_json.specs.Data.{Data}
use Rattle.market_types.specs.declared.command.Cmd.{Cmd}
use Rattle.market_types.specs.declared.reply.Entry.{Entry}
use Rattle.market_types.specs.declared.reply.Reply.{Reply}
use Rattle.market_types.specs.State.{State}
use Rattle.market_types.specs.Step.{step}
use Rattle.market_types.specs.History.{IsLegal}
use Rattle.line_engine.specs.Lines.{Line}
use Rattle.line_engine.specs.Rule.{LineRule}
use Rattle.journal_replay.specs.declared.checker.Progress.{Progress}
use Rattle.journal_replay.specs.declared.checker.Progress.TheVariants.{Unopened, Replaying, Faulty}
use Rattle.journal_replay.specs.declared.header.Extent.{Extent}
use Rattle.journal_replay.specs.declared.verdict.Verdict.{Verdict}
use Rattle.journal_replay.specs.declared.verdict.Verdict.TheVariants.{Legal}
use Rattle.journal_replay.specs.Reading.{Recorded, entry_in}
use Rattle.journal_replay.specs.Verdicts.{after_line, is_full, json_by, limit_of, verdict}
use Rattle.journal_replay.specs.Legality.{Reads}

-- what an entry makes of a watcher's state, by the market after it, its command and its reply
abbrev pub Seen : Type 0 → Type 0
Seen W = W → State → Cmd → Reply → W

-- ---- a history

-- what the entries of a history make of a watcher's state, one after the other
abbrev pub seen_all : {W : Type 0} → Seen W → State → List Entry → W → W
seen_all seen s [] w = w
seen_all seen s (e ∷ history) w =
    seen_all seen (step s e.call.seat e.call.cmd).1 history (seen w (step s e.call.seat e.call.cmd).1 e.call.cmd e.reply)

-- The text reads as a header and a legal history, whose entries led the watcher from one state to the other.
pub record Watched {W : Type 0} (seen : Seen W) (text : List ℕ) (w w' : W) : Type 0 where
  pub start : State
  pub extent : Extent
  pub history : List Entry
  pub reads : Reads text start extent history
  pub legal : IsLegal start history
  pub is : w' ≡ seen_all seen start history w

-- The text was read, this is its verdict, and where it is legal its entries led the watcher from one state to the other.
pub record Watches {W : Type 0} (seen : Seen W) (w w' : W) (left left' : Option (List ℕ)) (found : Verdict) : Type 0 where
  pub text : List ℕ
  pub read : Consumes left left' text
  pub within : length text ≤ limit_of text
  pub is : found ≡ verdict text
  pub watched : (entries : ℕ) → found ≡ Legal entries → Watched seen text w w'

-- ---- a line. No public clause has these words.

abbrev pub seen_by_entry : {W : Type 0} → Seen W → State → Option Recorded → W → W
seen_by_entry seen market None w = w
seen_by_entry seen market (Some e) w = seen w (step market e.seat e.cmd).1 e.cmd (step market e.seat e.cmd).0

abbrev pub seen_by_record : {W : Type 0} → Seen W → State → ℕ → Extent → Data → W → W
seen_by_record seen market entries extent d w =
    if is_full extent entries then w else seen_by_entry seen market (entry_in (length market.seats) market.levels d) w

abbrev pub seen_by_json : {W : Type 0} → Seen W → State → ℕ → Extent → Option Data → W → W
seen_by_json seen market entries extent None w = w
seen_by_json seen market entries extent (Some d) w = seen_by_record seen market entries extent d w

-- what a line more makes of a watcher's state
abbrev pub seen_by_line : {W : Type 0} → Seen W → Progress → Line → W → W
seen_by_line seen Unopened line w = w
seen_by_line seen (Replaying market entries extent) line w = seen_by_json seen market entries extent (json_by line.form line.bytes) w
seen_by_line seen (Faulty verdict extent) line w = w

-- how far the journal is found legal, and the watcher's state
abbrev pub watched_rule : {W : Type 0} → Seen W → LineRule (Progress × W)
watched_rule seen = record { reply = λ _ _. []; next = λ now line. (after_line now.0 line, seen_by_line seen now.0 line now.1) }
