-- The highest level of rows, above which a picture has none of them. Private functions alone cite these words.
use Rattle.std.specs.Prelude.{ℕ, max, List, [], ◌∷◌, Option, None, Some}
use Rattle.journal_chart.specs.declared.span.Span.{Span}
use Rattle.journal_chart.specs.Rows.{Row}

-- the highest level of a column, or 0
abbrev pub highest_in : Option Span → ℕ
highest_in None = 0
highest_in (Some s) = max s.least s.most

-- the highest level of all columns, or 0
abbrev pub highest_of : List (Option Span) → ℕ
highest_of [] = 0
highest_of (column ∷ columns) = max (highest_in column) (highest_of columns)

-- the highest level of all rows, or 0
abbrev pub highest : List Row → ℕ
highest [] = 0
highest (r ∷ rows) = max (highest_of r.level) (highest rows)
