use Rattle.std.proofs.Common.{◌+◌, ap, length, arith}
use Rattle.wide_rows.specs.Leaves.{lane}
use Rattle.wide_rows.proofs.Rows.{length-rows}
use Rattle.wide_rows.proofs.quads.Quad.reaching.Goals as goal

pub returns-clause-counted : goal.returns-clause-counted
returns-clause-counted c =
    let d = c.self.inside in
    omega (arith, length-rows (λ i. lane d.columns.now (d.first + i)) d.count, ap length c.self.view_is)
