-- Words on lists of rows.
use Rattle.std.specs.Prelude.{◌≢◌, ℕ, ◌<◌, ◌≤◌, Bool, not, if◌then◌else◌, ◌==◌, nat_lt, List, [], ◌∷◌, map, filter, find, sum_by, All, AllPairs, Option}
use Rattle.market_types.specs.declared.row.Row.{Row}

-- the stamps descend: each row is newer than every row after it
abbrev pub IsNewestFirst : List Row → Type 0
IsNewestFirst rows = AllPairs (λ newer older. older.stamp < newer.stamp) rows

-- no row has this stamp
abbrev pub IsAbsent : ℕ → List Row → Type 0
IsAbsent stamp rows = All (λ row. row.stamp ≢ stamp) rows

-- the sum of the requests
abbrev pub requests : List Row → ℕ
requests rows = sum_by (λ row. row.request) rows

-- the sum of the requests of the rows that are newer than a stamp
abbrev pub requests_above : ℕ → List Row → ℕ
requests_above stamp rows = requests (filter (λ row. nat_lt stamp row.stamp) rows)

-- the first mandated row
abbrev pub first_mandated : List Row → Option Row
first_mandated rows = find (λ row. row.mandated) rows

-- the row of a stamp
abbrev pub row_at : ℕ → List Row → Option Row
row_at stamp rows = find (λ row. row.stamp == stamp) rows

-- the rows with one more, before the first that is older
abbrev pub insert_row : Row → List Row → List Row
insert_row row [] = row ∷ []
insert_row row (next ∷ rest) = if nat_lt next.stamp row.stamp then row ∷ next ∷ rest else next ∷ insert_row row rest

-- the rows without that of a stamp
abbrev pub without : ℕ → List Row → List Row
without stamp rows = filter (λ row. not (row.stamp == stamp)) rows

-- a row with a request and a mandate of its own if it has the stamp
abbrev pub set_if : ℕ → ℕ → Bool → Row → Row
set_if stamp request mandated row = if row.stamp == stamp then record row { request = request; mandated = mandated } else row

-- the rows with the request and the mandate of that of a stamp set
abbrev pub set_row : ℕ → ℕ → Bool → List Row → List Row
set_row stamp request mandated rows = map (set_if stamp request mandated) rows

-- the requests are at most 65,535
abbrev pub HasLowRequests : List Row → Type 0
HasLowRequests rows = All (λ row. row.request ≤ 65535) rows
