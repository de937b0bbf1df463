use Rattle.std.proofs.Common.{◌≡◌, false, true, Option, None, Some, List, [], ◌++◌, length, sym, ap, subst, arith, refl, length-append}
use Rattle.market_types.specs.declared.row.Row.{Row}
use Rattle.wide_rows.specs.Passed.{IsPassed, rows_left}
use Rattle.wide_rows.proofs.Counted.{bits-le}
use Rattle.wide_rows.proofs.Passing.{pass_none, pass_on, part_passed, due_on, due_front}
use Rattle.wide_rows.proofs.WalkCounted.{bits-self, still, counted, came}
use Rattle.wide_rows.proofs.spans.Walk.next_due.Goals as goal

pub loop-quad-init : goal.loop-quad-init
loop-quad-init c =
    let i = c.self.inside in
    record {
      low = c.requires.low;
      room = omega (arith, c.requires.room);
      passed = subst (λ (rows : List Row). IsPassed c.args.workers c.args.demand rows (i.quads ++ rows_left i.leaves) c.args.carry.now c.args.carry.now) c.self.view_is (pass_none c.args.workers c.args.demand (i.quads ++ rows_left i.leaves) c.args.carry.now);
      entered = false;
      way = record {
        still = λ _. (sym c.self.view_is, (refl, c.self.invariant));
        front = [];
        leaves = [];
        others = [];
        first = 0;
        rows_are = λ no. absurd (let e : false ≡ true = no in cc);
        short = λ no. absurd (let e : false ≡ true = no in cc);
        over = λ no. absurd (let e : false ≡ true = no in cc);
        down = λ no. absurd (let e : false ≡ true = no in cc);
        left_are = λ no. absurd (let e : false ≡ true = no in cc);
        some = λ no. absurd (let e : false ≡ true = no in cc);
        due = λ no. absurd (let e : false ≡ true = no in cc);
      };
    }

pub returns-in-Some-clause-due : goal.returns-in-Some-clause-due
returns-in-Some-clause-due c =
    let k = c.args.workers in
    let d = c.args.demand in
    let i = c.loop-quad.self-inside in
    let others = rows_left i.leaves in
    due_on k d c.args.self.now (i.quads ++ others) c.in-Some.quad (c.next_due.new.self ++ others) c.args.carry.now c.loop-quad.carry c.next_due.new.carry c.loop-quad.invariant.passed
    (due_front k d i.quads c.in-Some.quad c.next_due.new.self others c.loop-quad.carry c.next_due.new.carry c.in-Some.ensures.due)

pub returns-in-Some-clause-counted : goal.returns-in-Some-clause-counted
returns-in-Some-clause-counted c =
    let i = c.loop-quad.self-inside in
    let v = c.loop-quad.invariant in
    counted c.args.workers c.args.demand c.args.self.now i.quads i.leaves c.loop-quad.carry c.args.visits.now c.loop-quad.visits v.entered v.way c.in-Some.quad c.next_due.new.self c.next_due.new.visits c.in-Some.ensures.some c.in-Some.ensures.four c.in-Some.ensures.counted

pub returns-in_default-leaves-clause-none : goal.returns-in_default-leaves-clause-none
returns-in_default-leaves-clause-none c =
    let i = c.loop-quad.self-inside in
    part_passed c.args.workers c.args.demand c.args.self.now i.quads i.leaves None c.args.carry.now c.loop-quad.carry c.next_due.new.carry c.loop-quad.invariant.passed c.in_default.ensures.none c.in_default-leaves.is

pub returns-in_default-leaves-clause-most : goal.returns-in_default-leaves-clause-most
returns-in_default-leaves-clause-most c =
    let i = c.loop-quad.self-inside in
    let v = c.loop-quad.invariant in
    let s = still c.args.workers c.args.demand c.args.self.now i.quads i.leaves c.loop-quad.carry c.args.visits.now c.loop-quad.visits v.entered v.way c.next_due.new.carry c.in_default.ensures.none in
    let p = c.in_default.ensures.counted_all in
    omega (arith, p.counted, bits-self p.quads (omega (arith, p.most)), p.few, s.none, ap (λ (rows : List Row). length rows) s.rows_are, length-append i.quads (rows_left i.leaves))

pub next_due-requires-in-loop-quad-clause-room : goal.next_due-requires-in-loop-quad-clause-room
next_due-requires-in-loop-quad-clause-room c =
    let i = c.loop-quad.self-inside in
    let v = c.loop-quad.invariant in
    let s = still c.args.workers c.args.demand c.args.self.now i.quads i.leaves c.loop-quad.carry c.args.visits.now c.loop-quad.visits v.entered v.way c.next_due.new.carry c.in_default.ensures.none in
    let p = c.in_default.ensures.counted_all in
    omega (arith, p.counted, bits-le 3 p.quads (omega (arith, p.most)), s.none, c.requires.room)

pub returns-in_default-next_due-clause-none : goal.returns-in_default-next_due-clause-none
returns-in_default-next_due-clause-none c =
    let k = c.args.workers in
    let d = c.args.demand in
    let i = c.loop-quad.self-inside in
    let others = c.in-Some-leaves.leaves in
    pass_on k d c.args.self.now others [] c.args.carry.now c.next_due.new.carry c.next_due-in-loop-quad.new.carry
    (part_passed k d c.args.self.now i.quads i.leaves (Some others) c.args.carry.now c.loop-quad.carry c.next_due.new.carry c.loop-quad.invariant.passed c.in_default.ensures.none c.in-Some-leaves.is) c.in_default-next_due.ensures.none

pub returns-in_default-next_due-clause-most : goal.returns-in_default-next_due-clause-most
returns-in_default-next_due-clause-most c =
    let i = c.loop-quad.self-inside in
    let v = c.loop-quad.invariant in
    let s = still c.args.workers c.args.demand c.args.self.now i.quads i.leaves c.loop-quad.carry c.args.visits.now c.loop-quad.visits v.entered v.way c.next_due.new.carry c.in_default.ensures.none in
    let p = c.in_default.ensures.counted_all in
    omega (
      arith,
      p.counted,
      bits-self p.quads (omega (arith, p.most)),
      p.few,
      c.in_default-next_due.ensures.most,
      s.none,
      ap (λ (rows : List Row). length rows) s.rows_are,
      length-append i.quads (rows_left i.leaves),
      ap (λ (o : Option (List Row)). length (rows_left o)) c.in-Some-leaves.is,
    )

pub loop-quad-preserved : goal.loop-quad-preserved
loop-quad-preserved c =
    let k = c.args.workers in
    let d = c.args.demand in
    let i = c.loop-quad.self-inside in
    let v = c.loop-quad.invariant in
    let others = c.in-Some-leaves.leaves in
    let e = c.in-Some-next_due.ensures in
    let s = still k d c.args.self.now i.quads i.leaves c.loop-quad.carry c.args.visits.now c.loop-quad.visits v.entered v.way c.next_due.new.carry c.in_default.ensures.none in
    let p = c.in_default.ensures.counted_all in
    let q = e.counted in
    record {
      low = e.low;
      room = omega (
        arith,
        s.none,
        p.counted,
        bits-le 3 p.quads (omega (arith, p.most)),
        q.counted,
        bits-le 4 q.near (omega (arith, q.few_near)),
        bits-le 4 q.blocks (omega (arith, q.few_blocks)),
        bits-le 4 q.far (omega (arith, q.few_far)),
        c.requires.room,
      );
      passed = pass_on k d c.args.self.now others (c.in-Some-next_due.leaf ++ c.next_due-in-loop-quad.new.self) c.args.carry.now c.next_due.new.carry c.next_due-in-loop-quad.new.carry
          (part_passed k d c.args.self.now i.quads i.leaves (Some others) c.args.carry.now c.loop-quad.carry c.next_due.new.carry v.passed c.in_default.ensures.none c.in-Some-leaves.is) e.due.passed;
      entered = true;
      way = came k d c.args.self.now i.quads i.leaves c.args.visits.now c.loop-quad.visits s others c.in-Some-next_due.leaf c.next_due-in-loop-quad.new.self c.next_due-in-loop-quad.new.carry c.next_due.new.visits c.next_due-in-loop-quad.new.visits c.in-Some-leaves.is p q e.some e.due.due;
    }
