-- What the code does to the columns of a line. Private functions alone cite these words.
use Rattle.std.specs.Prelude.{ℕ, ◌+◌, List, set, get_or, length, map, Option, None}
use Rattle.std.specs.List.{range_with_len}
use Rattle.journal_chart.specs.declared.span.Span.{Span}
use Rattle.journal_chart.specs.Columns.{joined, alone}

-- a column, which is none beyond the last
abbrev pub at : List (Option Span) → ℕ → Option Span
at columns place = get_or columns place None

-- a number more in a column
abbrev pub added : ℕ → Option ℕ → List (Option Span) → List (Option Span)
added place number columns = set columns place (joined (at columns place) (alone number))

-- each two of some things made one, and as many that say nothing put behind them
abbrev pub halved_with : {C : Type 0} → (C → C → C) → C → List C → List C
halved_with join none things = map (λ place. join (get_or things (place + place) none) (get_or things (place + place + 1) none)) (range_with_len 0 (length things))

-- each two columns made one
abbrev pub halved : List (Option Span) → List (Option Span)
halved columns = halved_with joined None columns
