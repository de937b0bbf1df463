use Rattle.std.proofs.Common.{◌≡◌, ◌+◌, ◌++◌}
use Rattle.wide_rows.specs.Leaves.{lane, rows_below, rows_in, IsTidy}
use Rattle.wide_rows.proofs.columns.Columns.absorb.Given as goal

abbrev pub invariant-loop-place : goal.invariant-loop-place
invariant-loop-place l = IsTidy l.self × (l.self.count ≡ l.fn.self.count + l.place) × (rows_in l.self ≡ rows_below (lane l.newer) l.place ++ rows_in l.fn.self)
