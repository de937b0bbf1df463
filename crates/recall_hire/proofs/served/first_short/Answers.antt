use Rattle.std.proofs.Common.{◌≡◌, ◌*◌, ◌≤◌, ◌++◌, [], length, arith}
use Rattle.market_types.specs.Bits.{bits}
use Rattle.wide_rows.proofs.Counted.{bits-mono}
use Rattle.recall_hire.proofs.Searches.{IsPart, next-part, due-past, none-due, search-ends, search-finds, search-goes-on}
use Rattle.recall_hire.proofs.Askers.{asks-none, asks-next}
use Rattle.recall_hire.proofs.served.first_short.Goals as goal

pub returns-in-Some : goal.returns-in-Some
returns-in-Some c = λ d some.
    let quad = c.next_surely_due-quad.result in
    let rest = c.next_surely_due-quad.new.self in
    let h = 2 * bits (length c.args.rows) in
    let i = c.loop-left.invariant in
    let e = c.next_surely_due-quad.ensures in
    let high : 2 * bits (length c.loop-left.rest) ≤ h = omega (arith, bits-mono (length c.loop-left.rest) (length c.args.rows) i.fewer) in
    i.goes d some c.short_among.new.visits _
    (search-finds d d c.args.roster.now c.loop-left.rest quad rest h 0 0 0 c.loop-left.visits c.next_surely_due-quad.new.visits c.short_among.new.visits c.in-Some.arena
    (asks-next d c.loop-left.rest quad rest h c.loop-left.carry c.next_surely_due-quad.new.carry c.loop-left.visits c.next_surely_due-quad.new.visits some i.nothing e.due e.counted high) (c.in-Some.ensures d some))

pub loop-left-preserved : goal.loop-left-preserved
loop-left-preserved c =
    let quad = c.next_surely_due-quad.result in
    let rest = c.next_surely_due-quad.new.self in
    let h = 2 * bits (length c.args.rows) in
    let i = c.loop-left.invariant in
    let e = c.next_surely_due-quad.ensures in
    let high : 2 * bits (length c.loop-left.rest) ≤ h = omega (arith, bits-mono (length c.loop-left.rest) (length c.args.rows) i.fewer) in
    let part : IsPart c.loop-left.rest quad rest = next-part 1 1 c.loop-left.rest quad rest c.loop-left.carry c.next_surely_due-quad.new.carry e.due.passed in
    let nothing : c.next_surely_due-quad.new.carry ≡ 0 = (asks-none 1 c.loop-left.rest (quad ++ rest) c.loop-left.carry c.next_surely_due-quad.new.carry (omega arith) i.nothing e.due.passed).0 in
    record {
      nothing = nothing;
      left_is = omega (arith, i.left_is, i.nothing, nothing, due-past 1 1 c.loop-left.rest quad rest c.loop-left.carry c.next_surely_due-quad.new.carry e.due.passed, c.requests-left.ensures);
      few = omega (arith, i.few, (c.in_default.ensures 1 (omega arith)).once, e.counted.once);
      fewer = omega (arith, i.fewer, part.fewer);
      goes = λ d some end found more.
          i.goes d some end found
          (search-goes-on d d c.args.roster.now c.loop-left.rest quad rest h 0 0 0 c.loop-left.visits c.next_surely_due-quad.new.visits c.short_among.new.visits end found
          (asks-next d c.loop-left.rest quad rest h c.loop-left.carry c.next_surely_due-quad.new.carry c.loop-left.visits c.next_surely_due-quad.new.visits some i.nothing e.due e.counted high) (c.in_default.ensures d some) more);
    }

pub returns : goal.returns
returns c = λ d some.
    let i = c.loop-left.invariant in
    i.goes d some c.loop-left.visits _
    (search-ends d d c.args.roster.now c.loop-left.rest (2 * bits (length c.args.rows)) 0 0 c.loop-left.visits some
    (asks-none d c.loop-left.rest [] 0 c.loop-left.left some (omega arith) (none-due 1 1 c.loop-left.rest 0 c.loop-left.left (omega (arith, i.left_is)) (omega (arith, c.loop-left-test.false)))).1)
