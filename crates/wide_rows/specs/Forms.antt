-- Where the rows of a level stand.
use Rattle.std.specs.Prelude.{◌≡◌, ℕ, ◌<◌, ◌≤◌, [], length}
use Rattle.market_types.specs.Rows.{requests}
use Rattle.wide_rows.specs.Leveled.{Leveled, IsLevel}
use Rattle.wide_rows.specs.declared.level.Form.{Form}
use Rattle.wide_rows.specs.declared.level.Form.TheVariants.{Empty, Leaf, Shelf}

-- the rows of a form, and the boxes that it takes
abbrev pub leveled : Form → Leveled
leveled Empty = record { rows = []; leaves = 0; shelves = 0 }
leveled (Leaf leaf) = record { rows = leaf.value; leaves = 1; shelves = 0 }
leveled (Shelf shelf) = record { rows = shelf.value.rows; leaves = shelf.value.leaves; shelves = 1 }

-- what holds of every level's form and total
pub record IsForm (form : Form) (sum : ℕ) : Type 0 where
  pub sound : IsLevel (leveled form)
  pub summed : sum ≡ requests (leveled form).rows

-- a leaf with no room for a row more
abbrev pub IsFullLeaf : Form → Type 0
IsFullLeaf Empty = ⊥
IsFullLeaf (Leaf leaf) = 16 ≤ length leaf.value
IsFullLeaf (Shelf shelf) = ⊥

-- a leaf with no rows, or a shelf with one leaf, which has rows
abbrev pub IsIdle : Form → Type 0
IsIdle Empty = Unit {0}
IsIdle (Leaf leaf) = leaf.value ≡ []
IsIdle (Shelf shelf) = (shelf.value.leaves ≡ 1) × (0 < length shelf.value.rows)
