use Rattle.std.proofs.Common.{ap, arith}
use Rattle.market_types.specs.declared.row.Row.{Row}
use Rattle.wide_rows.proofs.Passing.{last_asks}
use Rattle.wide_rows.proofs.quads.Quad.next.Goals as goal

pub overflow_sub-self-2 : goal.overflow_sub-self-2
overflow_sub-self-2 c =
    let d = c.self.inside in
    omega (arith, c.self.invariant.summed, last_asks d.columns.now d.first d.count (omega (arith, c.if-self-eq0.false)), ap (λ (r : Row). r.request) c.row-row.ensures)

pub invariant_of-self : goal.invariant_of-self
invariant_of-self c =
    let d = c.self.inside in
    record {
      room = c.self.invariant.room;
      four = omega (arith, c.self.invariant.four);
      within = omega (arith, c.self.invariant.within);
      summed = omega (arith, c.self.invariant.summed, last_asks d.columns.now d.first d.count (omega (arith, c.if-self-eq0.false)), ap (λ (r : Row). r.request) c.row-row.ensures);
    }
