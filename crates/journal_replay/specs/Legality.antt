-- When a text is a journal of a history (own).
use Rattle.std.specs.Prelude.{◌≡◌, ℕ, ◌≤◌, List, [], ◌∷◌, length, Some, option_and_then, ⊤}
use Rattle.market_types.specs.declared.reply.Entry.{Entry}
use Rattle.market_types.specs.State.{State}
use Rattle.market_types.specs.History.{IsLegal}
use Rattle.market_texts.specs.Texts.{reply_text}
use Rattle.line_engine.specs.Lines.{Line, lines_of}
use Rattle.journal_replay.specs.declared.header.Extent.{Extent}
use Rattle.journal_replay.specs.declared.header.Extent.TheVariants.{Limited}
use Rattle.journal_replay.specs.Reading.{header_of, entry_in}
use Rattle.journal_replay.specs.Verdicts.{json_by, longest_line, most_entries}

-- the line reads as a header that opens this market, of a journal that may have so many entries
abbrev pub IsHeaderLine : State → Extent → Line → Type 0
IsHeaderLine start extent line = option_and_then header_of (json_by line.form line.bytes) ≡ Some (record { market = start; extent = extent })

-- in a market of so many seats and levels the line reads as this entry: its call, and the text of its reply
abbrev pub IsEntryLine : ℕ → ℕ → Line → Entry → Type 0
IsEntryLine seats levels line e =
    option_and_then (entry_in seats levels) (json_by line.form line.bytes)
    ≡ Some (record { seat = e.call.seat; cmd = e.call.cmd; reply = reply_text e.reply })

-- the lines read as these entries, one each
abbrev pub AreEntryLines : ℕ → ℕ → List Line → List Entry → Type 0
AreEntryLines seats levels [] [] = ⊤
AreEntryLines seats levels (line ∷ lines) (e ∷ history) = IsEntryLine seats levels line e × AreEntryLines seats levels lines history
AreEntryLines seats levels _ _ = ⊥

-- the text reads as a header that opens this market, and the entries of this history
pub record Reads (text : List ℕ) (start : State) (extent : Extent) (history : List Entry) : Type 0 where
  pub header : Line
  pub lines : List Line
  pub are : lines_of longest_line text ≡ header ∷ lines
  pub opens : IsHeaderLine start extent header
  pub entries : AreEntryLines (length start.seats) start.levels lines history

-- the text reads as a header and a legal history of so many entries, which are not too many where they are limited
pub record IsLegalJournal (text : List ℕ) (entries : ℕ) : Type 0 where
  pub start : State
  pub extent : Extent
  pub history : List Entry
  pub reads : Reads text start extent history
  pub legal : IsLegal start history
  pub count : length history ≡ entries
  pub few : extent ≡ Limited → entries ≤ most_entries
