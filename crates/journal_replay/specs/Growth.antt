-- The limit of a journal's bytes never becomes less. No public clause has these words.
use Rattle.std.specs.Prelude.{◌≡◌, ℕ, ◌+◌, ◌≤◌, Bool, true, false, List, Option, Some, None, option_and_then, length}
use Rattle.std.specs.Str.{bytes_eq}
use Rattle.std.proofs.Common.{cond, refl, le_refl, arith}
use Rattle.market_types.specs.declared.reply.Reply.{Reply}
use Rattle.market_types.specs.State.{State}
use Rattle.market_types.specs.Step.{step}
use Rattle.market_texts.specs.Texts.{reply_text}
use Rattle.serde_json.specs.Data.{Data}
use Rattle.line_engine.specs.Lines.{Line}
use Rattle.line_engine.specs.Input.{longest_input}
use Rattle.journal_replay.specs.declared.checker.Progress.{Progress}
use Rattle.journal_replay.specs.declared.checker.Progress.TheVariants.{Unopened, Replaying, Faulty}
use Rattle.journal_replay.specs.declared.header.Extent.{Extent}
use Rattle.journal_replay.specs.declared.header.Extent.TheVariants.{Limited, Endless}
use Rattle.journal_replay.specs.declared.reading.Opened.{Opened}
use Rattle.journal_replay.specs.declared.verdict.Verdict.TheVariants.{BadRecord, WrongReply}
use Rattle.journal_replay.specs.Reading.{Recorded, header_of, entry_in}
use Rattle.journal_replay.specs.Verdicts.{after_header, after_entry, after_json, after_line, after_reply, is_full, json_by, longest_journal, most_bytes}

either-way : (b : Bool) (x y : Progress) (n : ℕ) → most_bytes x ≡ n → most_bytes y ≡ n → most_bytes (cond b x y) ≡ n
either-way true x y n e f = e
either-way false x y n e f = f

reply-keeps : (entries : ℕ) (extent : Extent) (reply : List ℕ) (due : Reply × State) → most_bytes (after_reply entries extent reply due) ≡ longest_journal extent
reply-keeps entries extent reply due =
    either-way (bytes_eq (reply_text due.0) reply) (Replaying due.1 (entries + 1) extent) (Faulty (WrongReply (entries + 2) (reply_text due.0)) extent) (longest_journal extent) refl refl

entry-keeps : (market : State) (entries : ℕ) (extent : Extent) (e : Option Recorded) → most_bytes (after_entry market entries extent e) ≡ longest_journal extent
entry-keeps market entries extent None = refl
entry-keeps market entries extent (Some e) = reply-keeps entries extent e.reply (step market e.seat e.cmd)

pub json-keeps : (market : State) (entries : ℕ) (extent : Extent) (d : Option Data) → most_bytes (after_json market entries extent d) ≡ longest_journal extent
json-keeps market entries extent None = refl
json-keeps market entries extent (Some d) =
    let read : Option Recorded = entry_in (length market.seats) market.levels d in
    either-way (is_full extent entries) (Faulty (BadRecord (entries + 2)) extent) (after_entry market entries extent read) (longest_journal extent) refl (entry-keeps market entries extent read)

no-less : (extent : Extent) → longest_input ≤ longest_journal extent
no-less Limited = le_refl longest_input
no-less Endless = omega arith

header-grows : (o : Option Opened) → longest_input ≤ most_bytes (after_header o)
header-grows None = le_refl longest_input
header-grows (Some o) = no-less o.extent

pub limit-grows : (now : Progress) (line : Line) → most_bytes now ≤ most_bytes (after_line now line)
limit-grows Unopened line = header-grows (option_and_then header_of (json_by line.form line.bytes))
limit-grows (Replaying market entries extent) line = omega (arith, json-keeps market entries extent (json_by line.form line.bytes))
limit-grows (Faulty verdict extent) line = le_refl (longest_journal extent)
