-- Which allotments add nothing to a column, and which an arena may have. Private functions alone cite these words.
use Rattle.std.specs.Prelude.{ℕ, ◌+◌, ◌-◌, ◌*◌, ◌^◌, ◌==◌, ◌&&◌, ◌||◌, Bool, nat_le, nat_lt, min, max, if◌then◌else◌, Option, None, Some}
use Rattle.journal_chart.specs.declared.span.Span.{Span}
use Rattle.journal_chart.specs.declared.covered.Covered.{Covered}

-- no allotment
abbrev pub none_covered : Covered
none_covered = record { from = 0; below = 0 }

-- of the allotments that add nothing to a column, nor their recalls nor their hires, the least, and the first above them: the column has
-- these spans of them, and so many workers are active
abbrev pub least_covered : Span → Span → Span → ℕ → ℕ
least_covered a r h active = max a.least (max (active - r.most) (if h.least == 0 then 0 else active + h.least))

abbrev pub past_covered : Span → Span → Span → ℕ → ℕ
past_covered a r h active = min (a.most + 1) (min (active + h.most + 1) (if r.least == 0 then a.most + 1 else (active + 1) - r.least))

-- these, as far as 32 bits hold them
abbrev pub covered_from : ℕ → ℕ → Covered
covered_from least past = if nat_lt (2 ^ 32 - 1) least || nat_lt (2 ^ 32 - 1) past then none_covered else record { from = least; below = past }

abbrev pub covered_by : Span → Span → Span → ℕ → Covered
covered_by a r h active = covered_from (least_covered a r h active) (past_covered a r h active)

-- the same of columns, which may have no numbers
abbrev pub covered : Option Span → Option Span → Option Span → ℕ → Covered
covered (Some a) (Some r) (Some h) active = covered_by a r h active
covered _ _ _ active = none_covered

-- all are covered that an arena may be allotted which asks for so many workers of a level that is given so many of what it asks for
abbrev pub covers : Covered → ℕ → ℕ → ℕ → Bool
covers c request given asked =
    if asked == 0 then (c.from == 0) && nat_lt 0 c.below
    else nat_le (c.from * asked) (request * given) && nat_le (request * given + asked) (c.below * asked)

-- what such an arena is allotted, where these numbers alone tell it
abbrev pub exactly : ℕ → ℕ → ℕ → Option ℕ
exactly request given asked =
    if (request == 0) || (given == 0) then Some 0
    else if given == asked then Some request
    else if request == asked then Some given
    else None
