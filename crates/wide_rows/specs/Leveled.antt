-- Levels, as those above them see them, and the boxes that their rows take.
use Rattle.std.specs.Prelude.{◌≡◌, ℕ, ◌+◌, ◌*◌, ◌/◌, ◌≤◌, min, sum_by, All, List, [], ◌∷◌, length, map, slice_index_or, slice_set}
use Rattle.market_types.specs.declared.row.Row.{Row}
use Rattle.market_types.specs.Rows.{IsNewestFirst, HasLowRequests, without}

-- what a level is to those above it: its rows, newest first, and how many leaves and shelves they take
pub record Leveled : Type 0 where
  pub rows : List Row
  pub leaves : ℕ
  pub shelves : ℕ

-- how many boxes no level uses, and how many there are in all
pub record Boxes : Type 0 where
  pub leaves : ℕ
  pub shelves : ℕ
  pub made_leaves : ℕ
  pub made_shelves : ℕ

-- a level takes few boxes: two neighbouring leaves have more than twelve rows together, and a shelf is for two leaves or more
pub record HasFewBoxes (level : Leveled) : Type 0 where
  pub leaves : level.leaves ≤ 2 * (length level.rows / 13) + min (length level.rows) 1
  pub shelves : level.shelves ≤ min (length level.rows / 13) 1
  pub shelved : 2 * level.shelves ≤ level.leaves

-- what holds of every level
pub record IsLevel (level : Leveled) : Type 0 where
  pub newest_first : IsNewestFirst level.rows
  pub low : HasLowRequests level.rows
  pub room : length level.rows ≤ 1024
  pub boxes : HasFewBoxes level

-- the most leaves that so many rows take at eight levels
abbrev pub leaves_for : ℕ → ℕ
leaves_for rows = 2 * (rows / 13) + min rows 8

-- the most shelves that so many rows take at eight levels
abbrev pub shelves_for : ℕ → ℕ
shelves_for rows = min (rows / 13) 8

-- the rows of each level
abbrev pub rows_of_each : List Leveled → List (List Row)
rows_of_each levels = map (λ level. level.rows) levels

-- the rows of a level, of level 1 at 0
abbrev pub rows_at : ℕ → List (List Row) → List Row
rows_at level levels = slice_index_or levels level []

-- how many rows there are at all levels
abbrev pub total_rows : List (List Row) → ℕ
total_rows levels = sum_by (λ rows. length rows) levels

-- the levels with a row more, first at one of them
abbrev pub with_first : ℕ → Row → List (List Row) → List (List Row)
with_first level row levels = slice_set levels level (row ∷ rows_at level levels)

-- the levels without the row of a stamp at one of them
abbrev pub without_at : ℕ → ℕ → List (List Row) → List (List Row)
without_at level stamp levels = slice_set levels level (without stamp (rows_at level levels))

-- what holds of the eight levels, of the boxes that none of them uses, and of the number of all rows
pub record AreLevels (levels : List Leveled) (spare : Boxes) (count : ℕ) : Type 0 where
  pub eight : length levels ≡ 8
  pub each : All IsLevel levels
  pub counted : count ≡ total_rows (rows_of_each levels)
  pub few : count ≤ 1024
  pub leaves : sum_by (λ level. level.leaves) levels + spare.leaves ≡ spare.made_leaves
  pub shelves : sum_by (λ level. level.shelves) levels + spare.shelves ≡ spare.made_shelves
  pub enough_leaves : leaves_for count + min count 1 ≤ spare.made_leaves
  pub enough_shelves : shelves_for count ≤ spare.made_shelves
