use Rattle.std.specs.List.{slice_get}
use Rattle.std.proofs.Common.{◌≡◌, ℕ, ◌+◌, ◌≤◌, List, length}
use Rattle.market_types.specs.declared.row.Row.{Row}
use Rattle.wide_rows.specs.Joined.{joined_below}
use Rattle.wide_rows.specs.Storeys.{IsStorey}
use Rattle.wide_rows.proofs.index.Index.row_at.Given as goal

abbrev pub invariant-loop-place : goal.invariant-loop-place
invariant-loop-place l = (l.place ≤ l.self.len) × ((rows : ℕ → List Row) (count : ℕ) → IsStorey l.self rows count
    → (l.index + length (joined_below rows l.place) ≡ l.rest + length (joined_below rows count)) × (slice_get (joined_below rows count) l.index ≡ slice_get (joined_below rows l.place) l.rest))

abbrev pub decreases-loop-place : goal.decreases-loop-place
decreases-loop-place l = l.place
