-- Levels as those above them see them: their rows, and the boxes that these take.
use Rattle.std.specs.Prelude.{ℕ, zero, suc, ◌+◌, ◌-◌, ◌<◌, ◌≤◌, List, [], ◌∷◌, ◌++◌, length, Box}
use Rattle.std.specs.declared.alloc.Global.{Global}
use Rattle.market_types.specs.declared.row.Row.{Row}
use Rattle.market_types.specs.Rows.{IsNewestFirst, HasLowRequests}

-- the rows of leaves, the oldest leaf first: newest first
abbrev pub rows_of : List (Box (List Row) Global) → List Row
rows_of [] = []
rows_of (leaf ∷ newer) = rows_of newer ++ leaf.value

-- the rows of the leaf at a place, none where there is no leaf
abbrev pub leaf_at : List (Box (List Row) Global) → ℕ → List Row
leaf_at [] place = []
leaf_at (leaf ∷ newer) zero = leaf.value
leaf_at (leaf ∷ newer) (suc place) = leaf_at newer place

-- what a shelf is to its level: its rows, newest first, and in how many leaves they stand
pub record Shelved : Type 0 where
  pub rows : List Row
  pub leaves : ℕ

-- leaves as their level sees them
abbrev pub shelved : List (Box (List Row) Global) → Shelved
shelved leaves = record { rows = rows_of leaves; leaves = length leaves }

-- leaves that a shelf may have: none is empty, and two neighbours have more than 12 rows together
pub record AreLeaves (leaves : List (Box (List Row) Global)) : Type 0 where
  pub some : (place : ℕ) → place < length leaves → 0 < length (leaf_at leaves place)
  pub apart : (place : ℕ) → suc place < length leaves → 12 < length (leaf_at leaves place) + length (leaf_at leaves (suc place))
  pub ordered : IsNewestFirst (rows_of leaves)
  pub low : HasLowRequests (rows_of leaves)
  pub few : length (rows_of leaves) ≤ 1024

-- a leaf has rows, and more than 12 with each neighbour
pub record StandsAlone (leaves : List (Box (List Row) Global)) (place : ℕ) : Type 0 where
  pub some : 0 < length (leaf_at leaves place)
  pub right : suc place < length leaves → 12 < length (leaf_at leaves place) + length (leaf_at leaves (suc place))
  pub left : 0 < place → 12 < length (leaf_at leaves (place - 1)) + length (leaf_at leaves place)

-- a leaf and the next newer one, of which one stands at a place, have room in one leaf
pub record FitTogether (leaves : List (Box (List Row) Global)) (place first : ℕ) : Type 0 where
  pub there : suc first < length leaves
  pub from : first ≤ place
  pub to : place ≤ suc first
  pub room : length (leaf_at leaves first) + length (leaf_at leaves (suc first)) ≤ 16
