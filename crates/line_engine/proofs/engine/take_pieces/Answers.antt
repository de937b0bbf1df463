use Rattle.std.proofs.Common.{◌≡◌, ◌+◌, ◌-◌, ◌≤◌, ◌++◌, length, take, arith, OnOk, OnErr, IfErr, Result, Ok, Err, length-take}
use Rattle.std.proofs.lemmas.Result.{IfErr-weaker, IfOk-from_err, err_from_is_err_and, on_ok_weaker}
use Rattle.std.specs.Io.KnownBytes.{Appends}
use Rattle.byte_devices.specs.Devices.{WritesFront}
use Rattle.line_engine.specs.Lines.{last_line}
use Rattle.line_engine.specs.Rule.{after, replies_to}
use Rattle.line_engine.specs.Input.{Stops, StopsAt}
use Rattle.line_engine.specs.Pieces.{IsPieceFault}
use Rattle.line_engine.proofs.Running.{running-begun, running-fed, running-all, running-prompt, within-fed, stopped-reading, stopped-inside, stopped-last, no-read-fault, read-again}
use Rattle.line_engine.proofs.engine.take_pieces.Goals as goal

-- two facts of one result
ok-both : {T E : Type 0} (r : Result T E) (P Q : Type 0) → OnOk r P → OnOk r Q → OnOk r (P × Q)
ok-both (Ok x) P Q p q = (p, q)
ok-both (Err y) P Q p q = tt

err-both : {T E : Type 0} (r : Result T E) (P : Type 0) (Q : E → Type 0) → OnErr r P → IfErr r Q → IfErr r (λ y. P × Q y)
err-both (Ok x) P Q p q = tt
err-both (Err y) P Q p q = (p, q)

pub loop-count-init : goal.loop-count-init
loop-count-init g c =
    let q = c.requires in
    let l = c.args.lines.now in
    let t = g.A.LineTaker in
    record {
      running = running-begun t.rule t.LONGEST (t.state l.answering.taker) _ _ l.unfinished.items q.fresh.0;
      handed = q.fresh.1;
      few = omega arith;
      within = omega arith;
      source_working = q.source_working;
      source_begins = q.source_begins;
      sink_working = q.sink_working;
      room = q.room;
    }

pub returns-in_err-count-clause-stops : goal.returns-in_err-count-clause-stops
returns-in_err-count-clause-stops g c =
    let l = c.loop-count in
    let t = g.A.LineTaker in
    let p = err_from_is_err_and c.from_residual.result c.from_residual.ensures.1 in
    let room : l.total + (c.most_bytes.result - l.total) ≡ t.most_bytes (t.state l.lines.answering.taker) = omega (arith, l.invariant.within, c.most_bytes.ensures.exact) in
    rw (p.1, p.2, l.invariant.sink_working) (stopped-reading t.rule t.LONGEST t.most_bytes g.met.A.LineTaker.grows t.stops _ (t.state l.lines.answering.taker) _ _ _ _ _ l.lines.unfinished.items l.total (c.most_bytes.result - l.total) _ c.in_err-count.field-0.0
    l.invariant.running room c.in_err-count.ensures.breaks_off)

pub returns-then-count-eq0-clause-all : goal.returns-then-count-eq0-clause-all
returns-then-count-eq0-clause-all g c =
    let l = c.loop-count in
    let t = g.A.LineTaker in
    let now = t.state l.lines.answering.taker in
    let u = l.lines.unfinished.items in
    let last = t.state c.finish.new.self.answering.taker in
    let W = g.W.Sink.taken in
    on_ok_weaker {P = (last ≡ after t.rule now (last_line t.LONGEST u)) × Appends (W l.sink) (W c.finish.new.sink) (replies_to t.rule now (last_line t.LONGEST u))} c.finish.result
    (λ both. running-all t.rule t.LONGEST t.most_bytes g.met.A.LineTaker.grows _ now last _ _ _ _ _ _ u l.total l.invariant.running
    (rw c.if-count-eq0.true at c.in_ok-count.ensures.read) l.invariant.within both.1 both.0)
    (ok-both c.finish.result _ _ c.finish.ensures.state c.finish.ensures.wrote)

pub returns-then-count-eq0-clause-stops : goal.returns-then-count-eq0-clause-stops
returns-then-count-eq0-clause-stops g c =
    let l = c.loop-count in
    let a = c.args in
    let t = g.A.LineTaker in
    let start = t.state a.lines.now.answering.taker in
    let now = t.state l.lines.answering.taker in
    let u = l.lines.unfinished.items in
    let R = g.R.Source.left in
    let W = g.W.Sink.taken in
    let source = c.read_piece.new.source in
    let sink = c.finish.new.sink in
    IfErr-weaker c.finish.result
    (λ fault. WritesFront (W l.sink) (W sink) (replies_to t.rule now (last_line t.LONGEST u)) × IsPieceFault (StopsAt t.rule t.stops now (last_line t.LONGEST u)) fault (g.W.Sink.failed sink))
    (λ fault. Stops t.rule t.LONGEST t.most_bytes t.stops start (R a.source.now) (R source) (W a.sink.now) (W sink) (g.R.Source.failed source) (g.W.Sink.failed sink) fault)
    (λ fault both. rw c.in_ok-count.ensures.working (stopped-last t.rule t.LONGEST t.most_bytes g.met.A.LineTaker.grows t.stops start now (R a.source.now) (R l.source) (R source) (W a.sink.now) (W l.sink) (W sink) u l.total (g.W.Sink.failed sink) fault l.invariant.running
    (rw c.if-count-eq0.true at c.in_ok-count.ensures.read) l.invariant.within both.0 both.1))
    (err-both c.finish.result (WritesFront (W l.sink) (W sink) (replies_to t.rule now (last_line t.LONGEST u)))
    (λ fault. IsPieceFault (StopsAt t.rule t.stops now (last_line t.LONGEST u)) fault (g.W.Sink.failed sink)) c.finish.ensures.prefix c.finish.ensures.cause)

pub returns-then-count-eq0-clause-prompt : goal.returns-then-count-eq0-clause-prompt
returns-then-count-eq0-clause-prompt g c = λ is. absurd (no-read-fault _ _ c.finish.result c.finish.ensures.cause is)

pub returns-in_err-feed-clause-prompt : goal.returns-in_err-feed-clause-prompt
returns-in_err-feed-clause-prompt g c =
    let p = err_from_is_err_and c.from_residual-in_err-feed.result c.from_residual-in_err-feed.ensures.1 in
    rw (p.1, p.2) (λ is. absurd (no-read-fault {T = Unit {0}} _ _ (Err c.in_err-feed.field-0.0) c.in_err-feed.ensures.cause is))

pub returns-in_err-feed-clause-stops : goal.returns-in_err-feed-clause-stops
returns-in_err-feed-clause-stops g c =
    let l = c.loop-count in
    let t = g.A.LineTaker in
    let p = err_from_is_err_and c.from_residual-in_err-feed.result c.from_residual-in_err-feed.ensures.1 in
    let h = c.in_err-feed.ensures in
    let piece = take c.in_ok-count.count c.read_piece.new.buffer in
    let len : length piece ≡ c.in_ok-count.count = omega (arith, length-take c.in_ok-count.count c.read_piece.new.buffer, c.in_ok-count.ensures.bound) in
    let within : l.total + c.in_ok-count.count ≤ t.most_bytes (t.state l.lines.answering.taker) = omega (arith, l.invariant.within, c.in_ok-count.ensures.within, c.most_bytes.ensures.exact) in
    rw (p.1, p.2, c.in_ok-count.ensures.working) (stopped-inside t.rule t.LONGEST t.most_bytes g.met.A.LineTaker.grows t.stops _ (t.state l.lines.answering.taker) _ _ _ _ _ _ l.lines.unfinished.items piece l.total c.in_ok-count.count _ c.in_err-feed.field-0.0
    l.invariant.running c.in_ok-count.ensures.read len within h.prefix h.cause)

pub loop-count-preserved : goal.loop-count-preserved
loop-count-preserved g c =
    let l = c.loop-count in
    let f = c.in_ok-feed.ensures in
    let t = g.A.LineTaker in
    let piece = take c.in_ok-count.count c.read_piece.new.buffer in
    let len : length piece ≡ c.in_ok-count.count = omega (arith, length-take c.in_ok-count.count c.read_piece.new.buffer, c.in_ok-count.ensures.bound) in
    let within : l.total + c.in_ok-count.count ≤ t.most_bytes (t.state l.lines.answering.taker) = omega (arith, l.invariant.within, c.in_ok-count.ensures.within, c.most_bytes.ensures.exact) in
    record {
      running = running-fed t.rule t.LONGEST _ (t.state l.lines.answering.taker) (t.state c.feed.new.self.answering.taker) _ _ _ _ _ _ l.lines.unfinished.items piece c.feed.new.self.unfinished.items l.total c.in_ok-count.count
          l.invariant.running c.in_ok-count.ensures.read len f.takes;
      handed = f.handed;
      few = omega (arith, f.few, len, l.invariant.few);
      within = within-fed t.rule t.LONGEST t.most_bytes g.met.A.LineTaker.grows (t.state l.lines.answering.taker) (t.state c.feed.new.self.answering.taker) _ _ (l.lines.unfinished.items ++ piece) c.feed.new.self.unfinished.items l.total c.in_ok-count.count within f.takes;
      source_working = c.in_ok-count.ensures.working;
      source_begins = c.in_ok-count.ensures.more (omega arith);
      sink_working = f.working;
      room = omega (arith, c.read_piece.auto.buffer, l.invariant.room);
    }

pub returns-in_err-count-clause-all : goal.returns-in_err-count-clause-all
returns-in_err-count-clause-all g c = IfOk-from_err _ _ c.from_residual.ensures.0

pub returns-in_err-count-clause-end : goal.returns-in_err-count-clause-end
returns-in_err-count-clause-end g c = IfOk-from_err _ _ c.from_residual.ensures.0

pub returns-in_err-count-clause-whole : goal.returns-in_err-count-clause-whole
returns-in_err-count-clause-whole g c = IfOk-from_err _ _ c.from_residual.ensures.0

pub returns-in_err-count-clause-working : goal.returns-in_err-count-clause-working
returns-in_err-count-clause-working g c = IfOk-from_err _ _ c.from_residual.ensures.0

pub returns-in_err-feed-clause-all : goal.returns-in_err-feed-clause-all
returns-in_err-feed-clause-all g c = IfOk-from_err _ _ c.from_residual-in_err-feed.ensures.0

pub returns-in_err-feed-clause-end : goal.returns-in_err-feed-clause-end
returns-in_err-feed-clause-end g c = IfOk-from_err _ _ c.from_residual-in_err-feed.ensures.0

pub returns-in_err-feed-clause-whole : goal.returns-in_err-feed-clause-whole
returns-in_err-feed-clause-whole g c = IfOk-from_err _ _ c.from_residual-in_err-feed.ensures.0

pub returns-in_err-feed-clause-working : goal.returns-in_err-feed-clause-working
returns-in_err-feed-clause-working g c = IfOk-from_err _ _ c.from_residual-in_err-feed.ensures.0

pub returns-in_err-count-clause-prompt : goal.returns-in_err-count-clause-prompt
returns-in_err-count-clause-prompt g c =
    let t = g.A.LineTaker in
    let p = err_from_is_err_and c.from_residual.result c.from_residual.ensures.1 in
    rw (p.1, p.2) (λ is. running-prompt t.rule t.LONGEST _ _ _ _ _ _ _ _ _ c.loop-count.invariant.running (c.in_err-count.ensures.none_given (read-again _ is)))
