-- How long the lines are that are written of a history (own).
use Rattle.std.specs.Prelude.{◌≤◌, ℕ, length}
use Rattle.market_types.specs.declared.reply.Entry.{Entry}
use Rattle.journal_replay.specs.Journal.{entry_line}
use Rattle.journal_replay.specs.Verdicts.{longest_line}

-- the line that is written of the entry has no more bytes than a line of a journal may have
abbrev pub IsShort : ℕ → Entry → Type 0
IsShort levels e = length (entry_line levels e) ≤ longest_line
