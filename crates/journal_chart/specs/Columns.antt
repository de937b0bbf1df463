-- A line thinned to columns: each says the least and the most of the numbers that it holds (own).
use Rattle.std.specs.Prelude.{ℕ, zero, suc, ◌+◌, ◌*◌, min, max, nat_le, if◌then◌else◌, List, [], ◌∷◌, take, drop, Option, None, Some}
use Rattle.journal_chart.specs.declared.span.Span.{Span}

-- the span of all numbers of two spans
abbrev pub joined : Option Span → Option Span → Option Span
joined None b = b
joined (Some a) None = Some a
joined (Some a) (Some b) = Some (record { least = min a.least b.least; most = max a.most b.most })

-- the span of a number alone
abbrev pub alone : Option ℕ → Option Span
alone None = None
alone (Some n) = Some (record { least = n; most = n })

-- the least and the most of numbers, where there is any
abbrev pub span_of : List (Option ℕ) → Option Span
span_of [] = None
span_of (n ∷ ns) = joined (alone n) (span_of ns)

-- so many columns, each of as many numbers as its width: those at the end may have none
abbrev pub columns : ℕ → ℕ → List (Option ℕ) → List (Option Span)
columns zero width numbers = []
columns (suc count) width numbers = span_of (take width numbers) ∷ columns count width (drop width numbers)

-- the width of each of at most so many columns that hold so many numbers: it is doubled once all columns are full
abbrev pub width_of : ℕ → ℕ → ℕ
width_of most zero = 1
width_of most (suc n) = if nat_le (most * width_of most n) n then width_of most n + width_of most n else width_of most n
