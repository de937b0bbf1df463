use Rattle.std.specs.Prelude.{IfSome}
use Rattle.std.specs.List.{slice_get}
use Rattle.std.proofs.Common.{◌≡◌, ◌-◌, ◌≤◌, List, Option, length, sym, ap, subst, arith}
use Rattle.market_types.specs.declared.row.Row.{Row}
use Rattle.wide_rows.specs.Leaves.{lane, rows_in}
use Rattle.wide_rows.proofs.Rows.{length-rows, get-row}
use Rattle.wide_rows.proofs.leaf.Leaf.spans.Goals as goal

pub returns-clause-oldest : goal.returns-clause-oldest
returns-clause-oldest c =
    let d = c.self.inside.columns in
    let long = length-rows (lane d) d.count in
    subst (λ (rows : List Row). IfSome (slice_get rows (length rows - 1)) (λ row. row.stamp ≤ c.args.stamp)) c.self.view_is
    (subst (λ (o : Option Row). IfSome o (λ row. row.stamp ≤ c.args.stamp)) (sym (get-row (lane d) d.count (length (rows_in d) - 1) (omega (arith, long, c.requires.some, ap (λ (rows : List Row). length rows) c.self.view_is))))
    (omega (arith, c.if-stamp-self.false, ap (λ i. (lane d i).stamp) (let e : d.count - 1 - (length (rows_in d) - 1) ≡ 0 = omega (arith, long) in e))))
