use Rattle.std.proofs.Common.{◌*◌, ap, length, refl, arith}
use Rattle.market_types.specs.Bits.{bits}
use Rattle.wide_rows.proofs.Counted.{bits-mono}
use Rattle.recall_hire.proofs.Shares.{after-le}
use Rattle.recall_hire.proofs.Searches.{IsPart, IsNext, next-part, due-past, none-due, search-ends, search-finds, search-goes-on}
use Rattle.recall_hire.proofs.walk.Search.first_needing.Goals as goal

pub returns-in-Some : goal.returns-in-Some
returns-in-Some c =
    let w = c.args.self.now in
    let quad = c.next_surely_due-quad.result in
    let rest = c.next_surely_due-quad.new.self in
    let h = 2 * bits (length c.args.rows) in
    let i = c.loop-left.invariant in
    let e = c.next_surely_due-quad.ensures in
    let next : IsNext w.workers w.demand c.loop-left.rest quad rest h c.loop-left.carry c.next_surely_due-quad.new.carry c.loop-left.visits c.next_surely_due-quad.new.visits =
    record { low = i.shared.carried; passed = e.due.passed; due = e.due.due; counted = e.counted; high = omega (arith, bits-mono (length c.loop-left.rest) (length c.args.rows) i.fewer) } in
    i.goes c.first_among.new.visits _
    (search-finds w.workers w.demand w.roster.now c.loop-left.rest quad rest h c.loop-left.carry c.next_surely_due-quad.new.carry c.first_among.new.carry c.loop-left.visits c.next_surely_due-quad.new.visits c.first_among.new.visits c.in-Some.arena next c.in-Some.ensures)

pub loop-left-preserved : goal.loop-left-preserved
loop-left-preserved c =
    let w = c.args.self.now in
    let quad = c.next_surely_due-quad.result in
    let rest = c.next_surely_due-quad.new.self in
    let h = 2 * bits (length c.args.rows) in
    let i = c.loop-left.invariant in
    let e = c.next_surely_due-quad.ensures in
    let look = c.in_default.ensures in
    let part : IsPart c.loop-left.rest quad rest = next-part w.workers w.demand c.loop-left.rest quad rest c.loop-left.carry c.next_surely_due-quad.new.carry e.due.passed in
    let next : IsNext w.workers w.demand c.loop-left.rest quad rest h c.loop-left.carry c.next_surely_due-quad.new.carry c.loop-left.visits c.next_surely_due-quad.new.visits =
    record { low = i.shared.carried; passed = e.due.passed; due = e.due.due; counted = e.counted; high = omega (arith, bits-mono (length c.loop-left.rest) (length c.args.rows) i.fewer) } in
    record {
      shared = record { within = i.shared.within; small = i.shared.small; carried = look.below refl };
      part = omega (arith, i.part, part.less);
      due = omega (
        arith,
        i.due,
        due-past w.workers w.demand c.loop-left.rest quad rest c.loop-left.carry c.next_surely_due-quad.new.carry e.due.passed,
        ap (λ n. w.workers * n) c.requests.ensures,
        look.carried refl,
        after-le w.workers w.demand c.next_surely_due-quad.new.carry quad,
      );
      few = omega (arith, i.few, look.once, e.counted.once);
      fewer = omega (arith, i.fewer, part.fewer);
      goes = λ end found more.
          i.goes end found
          (search-goes-on w.workers w.demand w.roster.now c.loop-left.rest quad rest h c.loop-left.carry c.next_surely_due-quad.new.carry c.first_among.new.carry c.loop-left.visits c.next_surely_due-quad.new.visits c.first_among.new.visits end found next look more);
    }

pub returns : goal.returns
returns c =
    let w = c.args.self.now in
    let i = c.loop-left.invariant in
    i.goes c.loop-left.visits _
    (search-ends w.workers w.demand w.roster.now c.loop-left.rest (2 * bits (length c.args.rows)) c.loop-left.carry c.loop-left.left c.loop-left.visits i.shared.carried
    (none-due w.workers w.demand c.loop-left.rest c.loop-left.carry c.loop-left.left i.due (omega (arith, c.loop-left-test.false))))

-- what those are allotted that come next is part of what was due to all
pub overflow_sub-left-in-loop-left : goal.overflow_sub-left-in-loop-left
overflow_sub-left-in-loop-left c =
    let w = c.args.self.now in
    let quad = c.next_surely_due-quad.result in
    let e = c.next_surely_due-quad.ensures in
    omega (
      arith,
      c.loop-left.invariant.due,
      due-past w.workers w.demand c.loop-left.rest quad c.next_surely_due-quad.new.self c.loop-left.carry c.next_surely_due-quad.new.carry e.due.passed,
      ap (λ n. w.workers * n) c.requests.ensures,
    )
