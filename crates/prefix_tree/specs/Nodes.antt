-- What a side of a node is seen as, its rows and its height, and what holds of a node. These words serve the tree's invariant and
-- the contracts of its parts, and public clauses have none of them.
use Rattle.std.specs.Prelude.{◌≡◌, ℕ, zero, suc, ◌+◌, ◌<◌, ◌≤◌, ◌^◌, max, Bool, if◌then◌else◌, count_by, List, [], ◌∷◌, ◌++◌, length, Option, Some, None, Box}
use Rattle.std.specs.declared.alloc.Global.{Global}
use Rattle.market_types.specs.declared.row.Row.{Row}
use Rattle.market_types.specs.Rows.{IsNewestFirst, requests, HasLowRequests}
use Rattle.prefix_tree.specs.declared.node.Node.{Node}

-- how many rows are mandated
abbrev pub mandates : List Row → ℕ
mandates rows = count_by (λ row. row.mandated) rows

-- no balanced tree of this height has fewer rows
abbrev pub rows_for : ℕ → ℕ
rows_for zero = 0
rows_for (suc zero) = 1
rows_for (suc (suc height)) = rows_for height + rows_for height + 1

-- a side has the rows that its height needs
pub record IsFilled (side : List Row × ℕ) : Type 0 where
  pub least : rows_for side.1 ≤ length side.0

-- the rows at and below a node
abbrev pub rows_in : Node → List Row
rows_in node = node.left.0 ++ node.row ∷ node.right.0

-- the rows of a side
abbrev pub rows_of : Option (Box Node Global) → List Row
rows_of None = []
rows_of (Some node) = rows_in node.value

-- the height of a side
abbrev pub height_of : Option (Box Node Global) → ℕ
height_of None = 0
height_of (Some node) = node.value.height

-- neither height is more than this above the other
pub record AreNear (by a b : ℕ) : Type 0 where
  pub left : a ≤ b + by
  pub right : b ≤ a + by

-- the heights of a node and of its sides fit
pub record IsBalanced (node : Node) : Type 0 where
  pub height : node.height ≡ max node.left.1 node.right.1 + 1
  pub near : AreNear 1 node.left.1 node.right.1
  pub left : IsFilled node.left
  pub right : IsFilled node.right

-- a node has the sums of its rows
pub record IsSummed (node : Node) : Type 0 where
  pub sum : node.sum ≡ requests (rows_in node)
  pub count : node.count ≡ length (rows_in node)
  pub mandates : node.mandates ≡ mandates (rows_in node)
  pub newer : node.newer ≡ requests node.left.0

-- what holds of every node
pub record IsSoundNode (node : Node) : Type 0 where
  pub ordered : IsNewestFirst (rows_in node)
  pub balanced : IsBalanced node
  pub summed : IsSummed node

-- what holds of every side
abbrev pub IsSound : Option (Box Node Global) → Type 0
IsSound None = Unit {0}
IsSound (Some node) = IsSoundNode node.value

-- the node is the topmost one of a side
pub record IsTopOf (node : Node) (side : List Row × ℕ) : Type 0 where
  pub rows : side.0 ≡ rows_in node
  pub height : side.1 ≡ node.height
  pub sound : IsSoundNode node

-- what holds of a whole tree
pub record IsTree (root : List Row × ℕ) : Type 0 where
  pub ordered : IsNewestFirst root.0
  pub filled : IsFilled root
  pub room : length root.0 ≤ 1024
  pub low : HasLowRequests root.0

-- a side's numbers fit those of the code
pub record IsSmall (side : List Row × ℕ) : Type 0 where
  pub height : side.1 < 2 ^ 30
  pub sum : requests side.0 < 2 ^ 31
  pub count : length side.0 < 2 ^ 28

-- two sides and a row that can stand together
pub record CanJoin (left : List Row × ℕ) (row : Row) (right : List Row × ℕ) : Type 0 where
  pub ordered : IsNewestFirst (left.0 ++ row ∷ right.0)
  pub filled_left : IsFilled left
  pub filled_right : IsFilled right
  pub height_left : left.1 < 2 ^ 31
  pub height_right : right.1 < 2 ^ 31
  pub sum : requests left.0 + row.request + requests right.0 < 2 ^ 32
  pub count : length left.0 + length right.0 < 2 ^ 29

-- what a side that is not empty opens to
pub record OpensTo (side : List Row × ℕ) (row : Row) (left right : List Row × ℕ) : Type 0 where
  pub rows : side.0 ≡ left.0 ++ row ∷ right.0
  pub height : side.1 ≡ max left.1 right.1 + 1
  pub near : AreNear 1 left.1 right.1
  pub ordered : IsNewestFirst (left.0 ++ row ∷ right.0)
  pub filled_left : IsFilled left
  pub filled_right : IsFilled right

-- the side has the rows of two sides with one between them, and a height that theirs allow
pub record Balances (left : List Row × ℕ) (row : Row) (right side : List Row × ℕ) : Type 0 where
  pub rows : side.0 ≡ left.0 ++ row ∷ right.0
  pub filled : IsFilled side
  pub not_lower : max left.1 right.1 ≤ side.1
  pub not_higher : side.1 ≤ max left.1 right.1 + 1
  pub settled : left.1 ≤ right.1 + 1 → right.1 ≤ left.1 + 1 → side.1 ≡ max left.1 right.1 + 1

-- at least this and at most that
pub record IsBetween (least most n : ℕ) : Type 0 where
  pub low : least ≤ n
  pub high : n ≤ most

-- one mandated row, or none
abbrev pub one_if : Bool → ℕ
one_if mandated = if mandated then 1 else 0

-- the row of a node that was taken out
abbrev pub row_of : Option (Box Node Global) → Option Row
row_of None = None
row_of (Some node) = Some node.value.row

-- the rows of a stretch ask for so much, and their numbers fit those of the code
pub record IsStretch (side : List Row × ℕ) (sum : ℕ) : Type 0 where
  pub sum_is : sum ≡ requests side.0
  pub small : requests side.0 < 2 ^ 31
