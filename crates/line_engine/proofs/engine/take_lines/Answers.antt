use Rattle.std.proofs.lemmas.Result.{IfOk-from_err, err_from_is_err_and}
use Rattle.line_engine.proofs.Running.{stopped-before, read-again, memory-no-read, value-no-read, some-room}
use Rattle.line_engine.proofs.engine.take_lines.Goals as goal

pub returns-in_err-buffer-clause-all : goal.returns-in_err-buffer-clause-all
returns-in_err-buffer-clause-all g c = IfOk-from_err _ _ c.from_residual.ensures.0

pub returns-in_err-buffer-clause-end : goal.returns-in_err-buffer-clause-end
returns-in_err-buffer-clause-end g c = IfOk-from_err _ _ c.from_residual.ensures.0

pub returns-in_err-buffer-clause-whole : goal.returns-in_err-buffer-clause-whole
returns-in_err-buffer-clause-whole g c = IfOk-from_err _ _ c.from_residual.ensures.0

pub returns-in_err-buffer-clause-working : goal.returns-in_err-buffer-clause-working
returns-in_err-buffer-clause-working g c = IfOk-from_err _ _ c.from_residual.ensures.0

pub returns-in_err-take_pieces-clause-all : goal.returns-in_err-take_pieces-clause-all
returns-in_err-take_pieces-clause-all g c = IfOk-from_err _ _ c.from_residual-in_err-take_pieces.ensures.0

pub returns-in_err-take_pieces-clause-end : goal.returns-in_err-take_pieces-clause-end
returns-in_err-take_pieces-clause-end g c = IfOk-from_err _ _ c.from_residual-in_err-take_pieces.ensures.0

pub returns-in_err-take_pieces-clause-whole : goal.returns-in_err-take_pieces-clause-whole
returns-in_err-take_pieces-clause-whole g c = IfOk-from_err _ _ c.from_residual-in_err-take_pieces.ensures.0

pub returns-in_err-take_pieces-clause-working : goal.returns-in_err-take_pieces-clause-working
returns-in_err-take_pieces-clause-working g c = IfOk-from_err _ _ c.from_residual-in_err-take_pieces.ensures.0

pub returns-in_err-buffer-clause-stops : goal.returns-in_err-buffer-clause-stops
returns-in_err-buffer-clause-stops g c =
    let t = g.A.LineTaker in
    let p = err_from_is_err_and c.from_residual.result c.from_residual.ensures.1 in
    rw (p.1, p.2) (stopped-before t.rule t.LONGEST t.most_bytes g.met.A.LineTaker.grows t.stops _ _ _ _ _ c.requires.source_working c.requires.sink_working)

pub returns-in_err-buffer-clause-prompt : goal.returns-in_err-buffer-clause-prompt
returns-in_err-buffer-clause-prompt g c =
    let p = err_from_is_err_and c.from_residual.result c.from_residual.ensures.1 in
    rw (p.1, p.2) (λ is. absurd (memory-no-read is))

pub take_pieces-requires-clause-few : goal.take_pieces-requires-clause-few
take_pieces-requires-clause-few g c = rw c.new-lines.ensures.taker c.requires.few

pub take_pieces-requires-clause-room : goal.take_pieces-requires-clause-room
take_pieces-requires-clause-room g c = some-room _ _ c.deref_mut.ensures.len c.in_ok-buffer.ensures

pub returns-in_err-take_pieces-clause-stops : goal.returns-in_err-take_pieces-clause-stops
returns-in_err-take_pieces-clause-stops g c =
    let r = c.from_residual-in_err-take_pieces in
    let p = err_from_is_err_and r.result r.ensures.1 in
    rw (p.1, p.2, ← c.new-lines.ensures.taker) c.in_err-take_pieces.ensures.stops

pub returns-in_err-take_pieces-clause-prompt : goal.returns-in_err-take_pieces-clause-prompt
returns-in_err-take_pieces-clause-prompt g c =
    let r = c.from_residual-in_err-take_pieces in
    let p = err_from_is_err_and r.result r.ensures.1 in
    rw (p.1, p.2, ← c.new-lines.ensures.taker) (λ is. c.in_err-take_pieces.ensures.prompt (read-again _ is))

pub returns-clause-all : goal.returns-clause-all
returns-clause-all g c = rw (c.into_taker.ensures, ← c.new-lines.ensures.taker) c.in_ok-take_pieces.ensures.all

pub returns-clause-end : goal.returns-clause-end
returns-clause-end g c = c.in_ok-take_pieces.ensures.end

pub returns-clause-whole : goal.returns-clause-whole
returns-clause-whole g c = c.in_ok-take_pieces.ensures.whole

pub returns-clause-working : goal.returns-clause-working
returns-clause-working g c = c.in_ok-take_pieces.ensures.working

pub returns-clause-prompt : goal.returns-clause-prompt
returns-clause-prompt g c = λ is. absurd (value-no-read _ is)
