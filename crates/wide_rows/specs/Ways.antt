-- How many visits a call makes at least at a level of so many rows, of which up to 12 stand in one leaf.
use Rattle.std.specs.Prelude.{ℕ, ◌+◌, min, nat_lt, if◌then◌else◌}
use Rattle.market_types.specs.Bits.{bits}

-- to go down to a row: the digits of their number where they stand in one leaf; more may stand in two leaves or more, and then the
-- way is through the top, a block and a leaf, with 1, 2 and 1 digits at least where there is one block, else 2, 1 and 1
abbrev pub least_way : ℕ → ℕ
least_way rows = min (bits rows) 4

-- to enter one node: that leaf; of more rows it may have one key
abbrev pub least_node : ℕ → ℕ
least_node rows = if nat_lt 12 rows then 1 else bits rows

-- to put in a row more: into that leaf; before more rows it may begin a leaf
abbrev pub least_put : ℕ → ℕ
least_put rows = if nat_lt 12 rows then 1 else bits (rows + 1)
