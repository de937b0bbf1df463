use Rattle.std.proofs.Common.{ap, length, ◌∙◌, arith}
use Rattle.market_types.specs.Rows.{requests}
use Rattle.market_types.proofs.RowReadings.{requests-cons}
use Rattle.recall_hire.proofs.Searches.{look-ends, look-finds, look-goes-on}
use Rattle.recall_hire.proofs.walk.Search.first_by_rows.Goals as goal

pub returns-then-lacks : goal.returns-then-lacks
returns-then-lacks c =
    let w = c.args.self.now in
    let e = c.in-Some.ensures in
    c.loop-row.invariant.goes c.lacks.new.carry c.next.new.visits _
    (look-finds w.workers w.demand w.roster.now c.loop-row.rest c.in-Some.row c.next.new.self c.loop-row.carry c.lacks.new.carry c.loop-row.visits c.next.new.visits e.some e.counted c.if-lacks.ensures.yes)

pub loop-row-preserved : goal.loop-row-preserved
loop-row-preserved c =
    let w = c.args.self.now in
    let e = c.in-Some.ensures in
    let i = c.loop-row.invariant in
    record {
      shared = record { within = i.shared.within; small = i.shared.small; carried = c.if-lacks.ensures.low };
      part = omega (arith, i.part, ap requests e.some ∙ requests-cons c.in-Some.row c.next.new.self);
      few = omega (arith, i.few, e.counted, ap length e.some);
      goes = λ after end found rest.
          i.goes after end found
          (look-goes-on w.workers w.demand w.roster.now c.loop-row.rest c.in-Some.row c.next.new.self c.loop-row.carry c.lacks.new.carry after c.loop-row.visits c.next.new.visits end found e.some e.counted
          c.if-lacks.ensures.no c.if-lacks.ensures.carry rest);
    }

pub returns : goal.returns
returns c =
    let w = c.args.self.now in
    c.loop-row.invariant.goes c.loop-row.carry c.next.new.visits _
    (look-ends w.workers w.demand w.roster.now c.loop-row.rest c.loop-row.carry c.loop-row.visits c.next.new.visits c.loop-row.invariant.shared.carried c.in_default.ensures.none c.in_default.ensures.uncounted)
