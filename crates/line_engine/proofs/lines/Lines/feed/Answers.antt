use Rattle.std.proofs.Common.{◌≤◌, ◌+◌, ◌++◌, arith, [], ◌∷◌, ◌∙◌, refl, sym, subst, ap, length, length-append}
use Rattle.std.proofs.lemmas.Result.{err_from_is_err_and, IfOk-from_err}
use Rattle.line_engine.proofs.Feeding.{Feeding, line-cut, room-for-line, feeding-begun, feeding-line, feeding-handed, feeding-kept, feeding-front, feeding-none, line-fault}
use Rattle.line_engine.proofs.lines.Lines.feed.Goals as goal

pub loop-line-init : goal.loop-line-init
loop-line-init g c =
    let s = c.args.self.now in
    let t = g.A.LineTaker in
    let short : length s.unfinished.items ≤ t.LONGEST + 1 = omega (arith, s.unfinished.ok.0, s.short) in
    record {
      feeding = subst (λ ws. Feeding t.rule t.LONGEST (t.state s.answering.taker) (t.state s.answering.taker) (g.W.Sink.taken c.args.sink.now) (g.W.Sink.taken c.args.sink.now) (s.unfinished.items ++ c.args.piece.now) ws s.unfinished.items c.args.piece.now)
          (sym c.requires.handed) (feeding-begun t.rule t.LONGEST (t.state s.answering.taker) (g.W.Sink.taken c.args.sink.now) s.unfinished.items c.args.piece.now s.no_lf short);
      few = omega arith;
      working = c.requires.working;
      room = omega (arith, ap length c.requires.handed);
    }

pub loop-line-preserved : goal.loop-line-preserved
loop-line-preserved g c =
    let l = c.loop-line in
    let e = c.in_ok-end_line.ensures in
    let cut = c.in-Some.ensures.some in
    let t = g.A.LineTaker in
    record {
      feeding = rw e.unfinished (feeding-line t.rule t.LONGEST _ _ _ _ _ _ _ _ l.self.unfinished.items l.rest.now c.in-Some.line.now c.in-Some.more.now l.invariant.feeding cut.0 cut.1 e.state e.told);
      few = omega (arith, l.invariant.few, e.few, ap length cut.0, length-append c.in-Some.line.now (10 ∷ c.in-Some.more.now));
      working = l.invariant.working;
      room = omega (arith, c.end_line.new.self.answering.replies.ok.0);
    }

pub loop-line-preserved-in_ok-hand_over : goal.loop-line-preserved-in_ok-hand_over
loop-line-preserved-in_ok-hand_over g c =
    let l = c.loop-line in
    let e = c.in_ok-end_line.ensures in
    let h = c.in_ok-hand_over.ensures in
    let cut = c.in-Some.ensures.some in
    let t = g.A.LineTaker in
    let line = feeding-line t.rule t.LONGEST _ _ _ _ _ _ _ _ l.self.unfinished.items l.rest.now c.in-Some.line.now c.in-Some.more.now l.invariant.feeding cut.0 cut.1 e.state e.told in
    record {
      feeding = rw (e.unfinished, h.handed, h.taker) (feeding-handed t.rule t.LONGEST _ _ _ _ _ _ _ [] c.in-Some.more.now line h.all);
      few = omega (arith, l.invariant.few, e.few, ap t.count h.taker, ap length cut.0, length-append c.in-Some.line.now (10 ∷ c.in-Some.more.now));
      working = h.working ∙ l.invariant.working;
      room = omega (arith, ap length h.handed);
    }

pub returns-in_err-end_line-clause-prefix : goal.returns-in_err-end_line-clause-prefix
returns-in_err-end_line-clause-prefix g c =
    let l = c.loop-line in
    let t = g.A.LineTaker in
    let p = err_from_is_err_and c.from_residual.result c.from_residual.ensures.1 in
    rw p.1 (feeding-none t.rule t.LONGEST _ _ _ _ _ _ _ l.rest.now l.invariant.feeding)

pub returns-in_err-end_line-clause-cause : goal.returns-in_err-end_line-clause-cause
returns-in_err-end_line-clause-cause g c =
    let l = c.loop-line in
    let cut = c.in-Some.ensures.some in
    let t = g.A.LineTaker in
    let p = err_from_is_err_and c.from_residual.result c.from_residual.ensures.1 in
    rw (p.1, p.2, l.invariant.working) (line-fault t.rule t.LONGEST t.stops _ _ _ _ _ _ l.self.unfinished.items l.rest.now c.in-Some.line.now c.in-Some.more.now c.in_err-end_line.field-0.0 l.invariant.feeding cut.0 cut.1 c.in_err-end_line.ensures.cause)

pub returns-in_err-hand_over-clause-prefix : goal.returns-in_err-hand_over-clause-prefix
returns-in_err-hand_over-clause-prefix g c =
    let l = c.loop-line in
    let e = c.in_ok-end_line.ensures in
    let cut = c.in-Some.ensures.some in
    let t = g.A.LineTaker in
    let p = err_from_is_err_and c.from_residual-in_err-hand_over.result c.from_residual-in_err-hand_over.ensures.1 in
    let line = feeding-line t.rule t.LONGEST _ _ _ _ _ _ _ _ l.self.unfinished.items l.rest.now c.in-Some.line.now c.in-Some.more.now l.invariant.feeding cut.0 cut.1 e.state e.told in
    rw p.1 (feeding-front t.rule t.LONGEST _ _ _ _ _ _ _ [] c.in-Some.more.now line c.in_err-hand_over.ensures.prefix)

pub returns-in_err-hand_over-2-clause-prefix : goal.returns-in_err-hand_over-2-clause-prefix
returns-in_err-hand_over-2-clause-prefix g c =
    let l = c.loop-line in
    let t = g.A.LineTaker in
    let p = err_from_is_err_and c.from_residual-in_err-hand_over-2.result c.from_residual-in_err-hand_over-2.ensures.1 in
    rw p.1 (feeding-front t.rule t.LONGEST _ _ _ _ _ _ _ l.self.unfinished.items l.rest.now l.invariant.feeding c.in_err-hand_over-2.ensures.prefix)

pub returns-in_err-keep-clause-prefix : goal.returns-in_err-keep-clause-prefix
returns-in_err-keep-clause-prefix g c =
    let l = c.loop-line in
    let t = g.A.LineTaker in
    let p = err_from_is_err_and c.from_residual-in_err-keep.result c.from_residual-in_err-keep.ensures.1 in
    rw p.1 (feeding-none t.rule t.LONGEST _ _ _ _ _ _ l.self.unfinished.items l.rest.now (feeding-handed t.rule t.LONGEST _ _ _ _ _ _ _ l.self.unfinished.items l.rest.now l.invariant.feeding c.in_ok-hand_over-2.ensures.all))

pub returns-clause-takes : goal.returns-clause-takes
returns-clause-takes g c =
    let l = c.loop-line in
    let t = g.A.LineTaker in
    let h = c.in_ok-hand_over-2.ensures in
    let k = c.in_ok-keep.ensures in
    rw (k.answering, h.taker) (feeding-kept t.rule t.LONGEST _ _ _ _ _ _ l.self.unfinished.items l.rest.now c.keep.new.self.unfinished.items
    (feeding-handed t.rule t.LONGEST _ _ _ _ _ _ _ l.self.unfinished.items l.rest.now l.invariant.feeding h.all) c.in_default.ensures.none k.kept)

pub returns-in_err-end_line-clause-takes : goal.returns-in_err-end_line-clause-takes
returns-in_err-end_line-clause-takes g c = IfOk-from_err _ _ c.from_residual.ensures.0

pub returns-in_err-end_line-clause-few : goal.returns-in_err-end_line-clause-few
returns-in_err-end_line-clause-few g c = IfOk-from_err _ _ c.from_residual.ensures.0

pub returns-in_err-end_line-clause-handed : goal.returns-in_err-end_line-clause-handed
returns-in_err-end_line-clause-handed g c = IfOk-from_err _ _ c.from_residual.ensures.0

pub returns-in_err-end_line-clause-working : goal.returns-in_err-end_line-clause-working
returns-in_err-end_line-clause-working g c = IfOk-from_err _ _ c.from_residual.ensures.0

pub returns-in_err-hand_over-clause-takes : goal.returns-in_err-hand_over-clause-takes
returns-in_err-hand_over-clause-takes g c = IfOk-from_err _ _ c.from_residual-in_err-hand_over.ensures.0

pub returns-in_err-hand_over-clause-handed : goal.returns-in_err-hand_over-clause-handed
returns-in_err-hand_over-clause-handed g c = IfOk-from_err _ _ c.from_residual-in_err-hand_over.ensures.0

pub returns-in_err-hand_over-clause-few : goal.returns-in_err-hand_over-clause-few
returns-in_err-hand_over-clause-few g c = IfOk-from_err _ _ c.from_residual-in_err-hand_over.ensures.0

pub returns-in_err-hand_over-clause-working : goal.returns-in_err-hand_over-clause-working
returns-in_err-hand_over-clause-working g c = IfOk-from_err _ _ c.from_residual-in_err-hand_over.ensures.0

pub returns-in_err-hand_over-2-clause-takes : goal.returns-in_err-hand_over-2-clause-takes
returns-in_err-hand_over-2-clause-takes g c = IfOk-from_err _ _ c.from_residual-in_err-hand_over-2.ensures.0

pub returns-in_err-hand_over-2-clause-handed : goal.returns-in_err-hand_over-2-clause-handed
returns-in_err-hand_over-2-clause-handed g c = IfOk-from_err _ _ c.from_residual-in_err-hand_over-2.ensures.0

pub returns-in_err-hand_over-2-clause-few : goal.returns-in_err-hand_over-2-clause-few
returns-in_err-hand_over-2-clause-few g c = IfOk-from_err _ _ c.from_residual-in_err-hand_over-2.ensures.0

pub returns-in_err-hand_over-2-clause-working : goal.returns-in_err-hand_over-2-clause-working
returns-in_err-hand_over-2-clause-working g c = IfOk-from_err _ _ c.from_residual-in_err-hand_over-2.ensures.0

pub returns-in_err-keep-clause-takes : goal.returns-in_err-keep-clause-takes
returns-in_err-keep-clause-takes g c = IfOk-from_err _ _ c.from_residual-in_err-keep.ensures.0

pub returns-in_err-keep-clause-handed : goal.returns-in_err-keep-clause-handed
returns-in_err-keep-clause-handed g c = IfOk-from_err _ _ c.from_residual-in_err-keep.ensures.0

pub returns-in_err-keep-clause-few : goal.returns-in_err-keep-clause-few
returns-in_err-keep-clause-few g c = IfOk-from_err _ _ c.from_residual-in_err-keep.ensures.0

pub returns-in_err-keep-clause-working : goal.returns-in_err-keep-clause-working
returns-in_err-keep-clause-working g c = IfOk-from_err _ _ c.from_residual-in_err-keep.ensures.0

pub returns-in_err-hand_over-clause-cause : goal.returns-in_err-hand_over-clause-cause
returns-in_err-hand_over-clause-cause g c =
    let p = err_from_is_err_and c.from_residual-in_err-hand_over.result c.from_residual-in_err-hand_over.ensures.1 in
    rw (p.1, p.2) (λ limit input short. (short, refl, c.in_err-hand_over.ensures.cause))

pub returns-in_err-hand_over-2-clause-cause : goal.returns-in_err-hand_over-2-clause-cause
returns-in_err-hand_over-2-clause-cause g c =
    let p = err_from_is_err_and c.from_residual-in_err-hand_over-2.result c.from_residual-in_err-hand_over-2.ensures.1 in
    rw (p.1, p.2) (λ limit input short. (short, refl, c.in_err-hand_over-2.ensures.cause))

pub returns-in_err-keep-clause-cause : goal.returns-in_err-keep-clause-cause
returns-in_err-keep-clause-cause g c =
    let p = err_from_is_err_and c.from_residual-in_err-keep.result c.from_residual-in_err-keep.ensures.1 in
    rw (p.1, p.2) (λ limit input short. (short, refl, c.in_ok-hand_over-2.ensures.working ∙ c.loop-line.invariant.working))

pub end_line-requires-clause-no_lf : goal.end_line-requires-clause-no_lf
end_line-requires-clause-no_lf g c = c.in-Some.ensures.some.1

pub end_line-requires-clause-room : goal.end_line-requires-clause-room
end_line-requires-clause-room g c = c.loop-line.invariant.room

pub keep-requires : goal.keep-requires
keep-requires g c = c.in_default.ensures.none

pub returns-clause-handed : goal.returns-clause-handed
returns-clause-handed g c = rw c.in_ok-keep.ensures.answering c.in_ok-hand_over-2.ensures.handed

pub returns-clause-working : goal.returns-clause-working
returns-clause-working g c = c.in_ok-hand_over-2.ensures.working ∙ c.loop-line.invariant.working

pub returns-clause-few : goal.returns-clause-few
returns-clause-few g c =
    let l = c.loop-line in
    let t = g.A.LineTaker in
    rw (c.in_ok-keep.ensures.answering, c.in_ok-hand_over-2.ensures.taker) (omega (arith, l.invariant.few))

pub end_line-requires-clause-few : goal.end_line-requires-clause-few
end_line-requires-clause-few g c =
    let l = c.loop-line in
    room-for-line _ _ _ _ l.invariant.few c.requires.few (line-cut _ _ _ c.in-Some.ensures.some.0)

pub loop-line-smaller : goal.loop-line-smaller
loop-line-smaller g c = line-cut _ c.in-Some.line.now _ c.in-Some.ensures.some.0

pub loop-line-smaller-in_ok-hand_over : goal.loop-line-smaller-in_ok-hand_over
loop-line-smaller-in_ok-hand_over g c = line-cut _ c.in-Some.line.now _ c.in-Some.ensures.some.0

pub invariant_of-self : goal.invariant_of-self
invariant_of-self g c = record { no_lf = c.end_line.new.self.no_lf; short = c.end_line.new.self.short }

pub invariant_of-self-2 : goal.invariant_of-self-2
invariant_of-self-2 g c = record { no_lf = c.loop-line.self.no_lf; short = c.loop-line.self.short }
