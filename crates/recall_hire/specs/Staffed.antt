-- What arenas have of what they are allotted, in the order in which they are served.
use Rattle.std.specs.Prelude.{ℕ, ◌+◌, ◌-◌, ◌==◌, nat_lt, if◌then◌else◌, List, [], ◌∷◌, map, length, Option}
use Rattle.std.specs.List.{filter, find, sum_by}
use Rattle.std.specs.Option.{option_map}
use Rattle.market_types.specs.State.{State, Arena}
use Rattle.market_types.specs.Counts.{Counts}
use Rattle.market_types.specs.Allotment.{in_order, allotment_of, active, hire, need}
use Rattle.recall_hire.specs.declared.rows.Staffing.{Staffing}

-- how many workers a row has too many
abbrev pub recall_in : Staffing → ℕ
recall_in r = r.active - r.allotted

-- how many it has too few
abbrev pub hire_in : Staffing → ℕ
hire_in r = r.allotted - r.active

-- the arena of the first row that has too few
abbrev pub first_in_need : List Staffing → Option ℕ
first_in_need rows = option_map (λ (r : Staffing). r.arena) (find (λ (r : Staffing). nat_lt 0 (hire_in r)) rows)

-- how many rows that are allotted a worker are looked at until one has too few, itself counted
abbrev pub searches : List Staffing → ℕ
searches [] = 0
searches (r ∷ rows) =
    if r.allotted == 0 then searches rows else if nat_lt 0 (hire_in r) then 1 else searches rows + 1

-- an arena with its count, where that is above 0
abbrev pub listed : ℕ → ℕ → List (ℕ × ℕ)
listed a count = if nat_lt 0 count then (a, count) ∷ [] else []

-- the arenas in order at which a count is above 0, with it
abbrev pub above_zero_in : (Staffing → ℕ) → List Staffing → List (ℕ × ℕ)
above_zero_in count rows =
    filter (λ (e : ℕ × ℕ). nat_lt 0 e.1) (map (λ (r : Staffing). (r.arena, count r)) rows)

-- those with too many, and those with too few
abbrev pub counts_in : List Staffing → Counts
counts_in rows = record { recalls = above_zero_in recall_in rows; hires = above_zero_in hire_in rows }

-- how many rows are listed: those with too many, and those with too few
abbrev pub imbalances : List Staffing → ℕ
imbalances rows = length (above_zero_in recall_in rows) + length (above_zero_in hire_in rows)

-- at how many rows a listing has to look: at each while seats are left to be met, and then at each that is allotted a worker
abbrev pub looks : ℕ → List Staffing → ℕ
looks unmet [] = 0
looks unmet (r ∷ rows) = looks (unmet - r.active) rows + (if r.allotted + unmet == 0 then 0 else 1)

-- how many seats are placed at the arenas of rows
abbrev pub actives : List Staffing → ℕ
actives rows = sum_by (λ (r : Staffing). r.active) rows

-- ---- in a market

-- the row of an arena
abbrev pub row_of : State → Arena → Staffing
row_of s a = record { arena = a.number; allotted = allotment_of s a.number; active = active s a.number }

-- the rows of arenas of a market
abbrev pub rows_among : State → List Arena → List Staffing
rows_among s arenas = map (row_of s) arenas

-- the rows of a market
abbrev pub rows_of : State → List Staffing
rows_of s = rows_among s (in_order s)

-- the first of these arenas that a worker is needed at
abbrev pub need_among : State → List Arena → Option ℕ
need_among s arenas = option_map (λ (a : Arena). a.number) (find (λ (a : Arena). nat_lt 0 (hire s a.number)) arenas)

-- the arena that a worker goes to next
abbrev pub need_of : State → Option ℕ
need_of s = option_map (λ (a : Arena). a.number) (need s)
