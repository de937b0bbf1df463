-- The text of a journal that is not handed out yet (own).
use Rattle.std.specs.Prelude.{ℕ, List, [], ◌++◌, Option, Some, None}
use Rattle.journal_replay.specs.Journal.{entry_lines}
use Rattle.journal_text.specs.declared.page.Page.{Page}

-- the bytes that are written and not handed out, and the part behind them whose lines still wait to be written
pub record OfUnread : Type 0 where
  pub ready : List ℕ
  pub page : Option Page

-- the lines of a part
abbrev pub page_lines : Page → List ℕ
page_lines p = entry_lines p.levels p.part.entries.items

-- the lines of a part, where there is one
abbrev pub lines_of : Option Page → List ℕ
lines_of (Some p) = page_lines p
lines_of None = []

-- all bytes that are not handed out
abbrev pub text_of : OfUnread → List ℕ
text_of u = u.ready ++ lines_of u.page
