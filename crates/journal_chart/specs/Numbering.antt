-- Rows whose arenas are numbered one after another. Private functions alone cite these words.
use Rattle.std.specs.Prelude.{◌≡◌, ℕ, List, Option, None, Some, length, map}
use Rattle.std.specs.List.{range_with_len}
use Rattle.journal_chart.specs.Rows.{Row}

-- the arenas of rows
abbrev pub arenas_of : List Row → List ℕ
arenas_of rows = map (λ (r : Row). r.arena) rows

-- the arenas of rows are numbered one after another, from this number on, if there is one
abbrev pub AreNumbered : Option ℕ → List Row → Type 0
AreNumbered None rows = Unit {0}
AreNumbered (Some first) rows = arenas_of rows ≡ range_with_len first (length rows)
