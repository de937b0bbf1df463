use Rattle.std.proofs.Common.{ap, sym, length, arith}
use Rattle.recall_hire.proofs.Searches.{look-ends, look-finds, look-goes-on}
use Rattle.recall_hire.proofs.Askers.{served-share, served-carry}
use Rattle.recall_hire.proofs.served.short_among.Goals as goal

pub returns-then-is_short : goal.returns-then-is_short
returns-then-is_short c = λ d some.
    let row = c.in-Some.row in
    let e = c.in-Some.ensures in
    c.loop-row.invariant.goes d some c.next.new.visits _
    (look-finds d d c.args.roster.now c.loop-row.rest row c.next.new.self 0 0 c.loop-row.visits c.next.new.visits e.some e.counted
    (omega (arith, served-share row.request d some, c.if-is_short.ensures.yes)))

pub loop-row-preserved : goal.loop-row-preserved
loop-row-preserved c =
    let row = c.in-Some.row in
    let e = c.in-Some.ensures in
    let i = c.loop-row.invariant in
    record {
      few = omega (arith, i.few, e.counted, ap length e.some);
      goes = λ d some end found rest.
          i.goes d some end found
          (look-goes-on d d c.args.roster.now c.loop-row.rest row c.next.new.self 0 0 0 c.loop-row.visits c.next.new.visits end found e.some e.counted
          (omega (arith, served-share row.request d some, c.if-is_short.ensures.no)) (sym (served-carry row.request d some)) rest);
    }

pub returns : goal.returns
returns c = λ d some.
    c.loop-row.invariant.goes d some c.next.new.visits _
    (look-ends d d c.args.roster.now c.loop-row.rest 0 c.loop-row.visits c.next.new.visits some c.in_default.ensures.none c.in_default.ensures.uncounted)
