-- Walks through rows, the newest first, that pass over some as a whole.
use Rattle.std.specs.Prelude.{Option, None, Some, Box, ◌≡◌, ℕ, ◌+◌, ◌-◌, ◌*◌, ◌/◌, ◌<◌, ◌≤◌, min, List, [], ◌∷◌, ◌++◌, length, slice_index}
use Rattle.market_types.specs.declared.row.Row.{Row}
use Rattle.market_types.specs.Rows.{requests}
use Rattle.market_types.specs.Bits.{bits}
use Rattle.wide_rows.specs.Leaves.{lane, rows_below, IsTidy}
use Rattle.std.specs.declared.alloc.Global.{Global}
use Rattle.wide_rows.specs.Shelves.{leaf_at, AreLeaves}
use Rattle.wide_rows.specs.Storeys.{IsIndexed}
use Rattle.wide_rows.specs.declared.columns.Columns.{Columns}
use Rattle.wide_rows.specs.declared.storeys.Storeys.{Storeys}

-- the first of these rows are passed over, since what they ask for, times the workers, on top of a carry stays below the demand
pub record IsPassed (workers demand : ℕ) (rows rest : List Row) (carry after : ℕ) : Type 0 where
  pub passed : List Row
  pub rows_are : rows ≡ passed ++ rest
  pub carried : after ≡ carry + workers * requests passed
  pub below : carry < demand → after < demand
  pub none : demand ≤ carry → passed ≡ []

-- the rows of what is left, if any
abbrev pub rows_left : Option (List Row) → List Row
rows_left None = []
rows_left (Some rows) = rows

-- some are passed over, and with those that come next the demand is reached
pub record IsDue (workers demand : ℕ) (rows next rest : List Row) (carry after : ℕ) : Type 0 where
  pub passed : IsPassed workers demand rows (next ++ rest) carry after
  pub due : demand ≤ after + workers * requests next

-- the rows of so many lanes from one on
abbrev pub rows_from : Columns → ℕ → ℕ → List Row
rows_from columns first count = rows_below (λ i. lane columns (first + i)) count

-- the arena at which the demand is reached: what the rows before its own ask for, times the workers, on top of the carry stays below the
-- demand, and with its own does not
pub record IsReached (workers demand carry : ℕ) (rows : List Row) (arena : ℕ) : Type 0 where
  pub before : List Row
  pub row : Row
  pub after : List Row
  pub rows_are : rows ≡ before ++ row ∷ after
  pub arena_is : arena ≡ row.arena
  pub below : carry + workers * requests before < demand
  pub reached : demand ≤ carry + workers * (requests before + row.request)

-- so many rows are within a quad of a leaf, and ask for so much
pub record AreAside (columns : Columns) (first count asked : ℕ) : Type 0 where
  pub room : first ≤ 12
  pub four : count ≤ 4
  pub within : first + count ≤ 16
  pub summed : asked ≡ requests (rows_from columns first count)

-- how many rows stand in a quad: four lanes side by side
abbrev pub quad_len : Columns → ℕ → ℕ
quad_len columns quad = min 4 (columns.count - 4 * quad)

-- the rows of a quad
abbrev pub quad_rows : Columns → ℕ → List Row
quad_rows columns quad = rows_from columns (4 * quad) (quad_len columns quad)

-- the rows of the first quads
abbrev pub rows_of_quads : Columns → ℕ → List Row
rows_of_quads columns quads = rows_below (lane columns) (min columns.count (4 * quads))

-- the sum of a quad of a column
abbrev pub quad_sum : List ℕ → ℕ → ℕ
quad_sum column quad =
    slice_index column (4 * quad) + slice_index column (4 * quad + 1) + slice_index column (4 * quad + 2) + slice_index column (4 * quad + 3)

-- sums of quads that were passed over, as many visits as their number has binary digits; where there are some, the next quad is whole
pub record AreQuadsPassed (rows next rest : List Row) (before after : ℕ) : Type 0 where
  pub quads : ℕ
  pub counted : after ≡ before + bits quads
  pub few : quads ≤ 3
  pub whole : 0 < quads → 4 * quads + 1 + length rest ≤ length rows
  pub all : quads + length next + length rest ≤ length rows
  pub short : length rest ≤ 12

-- all that were left
pub record AllQuadsPassed (rows : List Row) (before after : ℕ) : Type 0 where
  pub quads : ℕ
  pub counted : after ≡ before + bits quads
  pub few : 4 * quads ≤ length rows + 3
  pub most : quads ≤ 4

-- sums that were passed over on the way from so many leaves to one: of leaves in the first block, of whole blocks, and of leaves in
-- the last block, each as many visits as their number has binary digits
pub record AreLeavesPassed (left at before after : ℕ) : Type 0 where
  pub near : ℕ
  pub blocks : ℕ
  pub far : ℕ
  pub counted : after ≡ before + bits near + bits blocks + bits far
  pub few_near : near ≤ 15
  pub few_blocks : blocks ≤ 9
  pub few_far : far ≤ 15
  pub at_is : near + 16 * blocks + far + 1 + at ≡ left
  pub older : 0 < blocks + far → near + 16 * blocks + 16 ≤ left

-- the same, against the rows: two leaves side by side have 13 rows or more
pub record AreRowsPassed (rows next rest : List Row) (before after : ℕ) : Type 0 where
  pub near : ℕ
  pub blocks : ℕ
  pub far : ℕ
  pub counted : after ≡ before + bits near + bits blocks + bits far
  pub few_near : near ≤ 15
  pub few_blocks : blocks ≤ 9
  pub few_far : far ≤ 15
  pub all : near + blocks + far + length next + length rest ≤ length rows
  pub single : 13 * (near / 2) + length next ≤ length rows
  pub paired : 13 * ((near + 1) / 2) ≤ length rows
  pub older : 0 < blocks + far → 104 + 13 * ((near + 16 * blocks) / 2) ≤ length rows

-- what a walk counts on its way to the next rows: no more than one visit for each row that it passes over, and with those for the
-- rows that come next no more than a way down
pub record IsCounted (rows next rest : List Row) (before after : ℕ) : Type 0 where
  pub more : before ≤ after
  pub once : after + length next + length rest ≤ before + length rows
  pub most : after + length next ≤ before + 2 * bits (length rows)

-- a walk through leaves is in one of which some rows were looked at, or in none
abbrev pub AreBegun : List Row → Option (List Row) → Type 0
AreBegun quads None = Unit {0}
AreBegun quads (Some leaves) = length quads ≤ 12

-- what those quads of columns ask for that are left, each sum at its quad's place; none of them is empty
pub record AreQuads (columns : Columns) (sums : List ℕ) (left : ℕ) : Type 0 where
  pub tidy : IsTidy columns
  pub wide : length sums ≡ 4
  pub asked : (quad : ℕ) → quad < left → slice_index sums quad ≡ quad_sum columns.requests quad
  pub some : 4 * left < columns.count + 4

-- the first leaves of a shelf, which are left of it
pub record AreFirst (leaves : List (Box (List Row) Global)) (storeys : Storeys) (left : ℕ) : Type 0 where
  pub sound : AreLeaves leaves
  pub indexed : IsIndexed storeys (leaf_at leaves) (length leaves)
  pub within : left ≤ length leaves

-- rows, and the most visits of a walk for one of them that it has to look at: a way down
abbrev pub with_height : List Row → List Row × ℕ
with_height rows = (rows, 2 * bits (length rows))
