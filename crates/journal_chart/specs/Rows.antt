-- What contracts see of a row of a chart (own).
use Rattle.std.specs.Prelude.{ℕ, List, Option}
use Rattle.journal_chart.specs.declared.span.Span.{Span}

-- the number of an arena, the level at which it stands, if it lives, and what each of its lines says in each column, none where it had no number:
-- the number of its level, how many workers it asked for and was allotted, how many seats were placed at it, how many of these were too many, and
-- how many more it was allotted
pub record Row : Type 0 where
  pub arena : ℕ
  pub stands : Option ℕ
  pub level : List (Option Span)
  pub request : List (Option Span)
  pub allot : List (Option Span)
  pub active : List (Option Span)
  pub recall : List (Option Span)
  pub hire : List (Option Span)
