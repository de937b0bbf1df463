-- Rows in columns.
use Rattle.std.specs.Prelude.{◌≡◌, ℕ, zero, suc, ◌^◌, ◌<◌, ◌≤◌, ◌==◌, List, [], ◌∷◌, length, slice_index}
use Rattle.std.specs.Int.{bit_at}
use Rattle.market_types.specs.declared.row.Row.{Row}
use Rattle.market_types.specs.Rows.{IsNewestFirst, HasLowRequests}
use Rattle.wide_rows.specs.declared.columns.Columns.{Columns}

-- the row in a lane
abbrev pub lane : Columns → ℕ → Row
lane columns place =
    record { stamp = slice_index columns.stamps place; arena = slice_index columns.arenas place; request = slice_index columns.requests place; mandated = bit_at columns.mandated place == 1 }

-- the rows of the first lanes, the newest first
abbrev pub rows_below : (ℕ → Row) → ℕ → List Row
rows_below row zero = []
rows_below row (suc count) = row count ∷ rows_below row count

-- the rows in columns
abbrev pub rows_in : Columns → List Row
rows_in columns = rows_below (lane columns) columns.count

-- each column has 16 lanes
pub record IsWide (columns : Columns) : Type 0 where
  pub stamps : length columns.stamps ≡ 16
  pub requests : length columns.requests ≡ 16
  pub arenas : length columns.arenas ≡ 16

-- a lane with no row asks for nothing, and has no mandate
pub record IsTidy (columns : Columns) : Type 0 where
  pub wide : IsWide columns
  pub room : columns.count ≤ 16
  pub requests : (place : ℕ) → columns.count ≤ place → slice_index columns.requests place ≡ 0
  pub mandates : columns.mandated < 2 ^ columns.count

-- what holds of every leaf
pub record IsLeaf (columns : Columns) : Type 0 where
  pub tidy : IsTidy columns
  pub ordered : IsNewestFirst (rows_in columns)
  pub low : HasLowRequests (rows_in columns)
