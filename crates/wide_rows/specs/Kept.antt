-- What holds of every shelf.
use Rattle.std.specs.Prelude.{◌≡◌, length}
use Rattle.std.specs.Vec.{vec_capacity}
use Rattle.wide_rows.specs.Shelves.{leaf_at, AreLeaves}
use Rattle.wide_rows.specs.Storeys.{IsKnown}
use Rattle.wide_rows.specs.declared.shelf.Shelf.TheInside.{Inside}

-- a shelf's leaves, and what is known of them
pub record IsShelf (shelf : Inside) : Type 0 where
  pub leaves : AreLeaves shelf.leaves.items
  pub known : IsKnown shelf.storeys (leaf_at shelf.leaves.items) (length shelf.leaves.items)
  pub room : vec_capacity shelf.leaves ≡ 160
