-- Boxes that no level uses.
use Rattle.std.specs.Prelude.{◌≡◌, ℕ, ◌≤◌, All, List, [], length, Box}
use Rattle.std.specs.Vec.{vec_capacity}
use Rattle.std.specs.declared.vec.Vec.{Vec}
use Rattle.std.specs.declared.alloc.Global.{Global}
use Rattle.market_types.specs.declared.row.Row.{Row}
use Rattle.wide_rows.specs.Shelves.{Shelved}

-- leaves with no rows, and shelves with no leaves, and room for as many as there are
pub record AreSpare (leaves : Vec (Box (List Row) Global) Global) (shelves : Vec (Box Shelved Global) Global) (made_leaves made_shelves : ℕ) : Type 0 where
  pub blank : All (λ (leaf : Box (List Row) Global). leaf.value ≡ []) leaves.items
  pub empty : All (λ (shelf : Box Shelved Global). shelf.value ≡ record { rows = []; leaves = 0 }) shelves.items
  pub few_leaves : length leaves.items ≤ made_leaves
  pub few_shelves : length shelves.items ≤ made_shelves
  pub leaf_room : made_leaves ≤ vec_capacity leaves
  pub shelf_room : made_shelves ≤ vec_capacity shelves
