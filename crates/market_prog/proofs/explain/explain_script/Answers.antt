use Rattle.std.proofs.Common.{◌∙◌, ap, refl, subst, Err}
use Rattle.std.specs.Io.KnownBytes.{Appends}
use Rattle.std.proofs.lemmas.Result.{err_from_is_err_and}
use Rattle.byte_devices.specs.Devices.{WritesFront}
use Rattle.market_types.specs.State.{State}
use Rattle.explainer.specs.Explanation.{explanation_text}
use Rattle.market_types.specs.Opening.{opened_with, opening_with}
use Rattle.market_prog.proofs.Explaining.{explain-answers, explain-breaks, explain-stops, explain-unopened, unopened-memory, written-opening}
use Rattle.market_prog.proofs.explain.explain_script.Goals as goal

pub returns-in_err-market-clause-stops : goal.returns-in_err-market-clause-stops
returns-in_err-market-clause-stops g c = λ opened.
    let p = err_from_is_err_and c.from_residual.result c.from_residual.ensures.1 in
    let a = c.args in
    let memory = unopened-memory (opened_with a.options) c.in_err-market.field-0.0 opened c.in_err-market.ensures.exact in
    rw (p.1, p.2, memory) (explain-unopened (opening_with a.options) (g.R.Source.left a.source.now) (g.W.Sink.taken a.sink.now) (g.R.Source.failed a.source.now) (g.W.Sink.failed a.sink.now) c.requires.source_working c.requires.sink_working)

pub returns-in_err-session-clause-stops : goal.returns-in_err-session-clause-stops
returns-in_err-session-clause-stops g c = λ opened.
    let p = err_from_is_err_and c.from_residual-in_err-session.result c.from_residual-in_err-session.ensures.1 in
    let a = c.args in
    let begun = c.new in
    let ran = c.take_lines.new in
    rw (p.1, p.2) (explain-stops (c.silence.ensures (λ now line. refl)) _ begun.result.market (opening_with a.options) begun.result.unread (g.R.Source.left a.source.now) (g.R.Source.left ran.source) (g.W.Sink.taken a.sink.now) (g.W.Sink.taken ran.sink) (g.R.Source.failed ran.source) (g.W.Sink.failed ran.sink)
    c.in_err-session.field-0.0 (begun.ensures.market ∙ c.in_ok-market.ensures.opened) begun.ensures.unread c.in_err-session.ensures.stops)

pub returns-in_err-explain-clause-stops : goal.returns-in_err-explain-clause-stops
returns-in_err-explain-clause-stops g c = λ opened.
    let p = err_from_is_err_and c.from_residual-in_err-explain.result c.from_residual-in_err-explain.ensures.1 in
    let a = c.args in
    let begun = c.new in
    let ran = c.take_lines.new in
    let last = c.in_ok-session.session in
    let front : WritesFront (g.W.Sink.taken ran.sink) (g.W.Sink.taken c.explain.new.sink) (explanation_text last.market) =
    subst (λ (s : State). WritesFront (g.W.Sink.taken ran.sink) (g.W.Sink.taken c.explain.new.sink) (explanation_text s)) c.market.ensures c.in_err-explain.ensures.prefix in
    rw (p.1, p.2) (explain-breaks (c.silence.ensures (λ now line. refl)) begun.result.market (opening_with a.options) begun.result.unread (last.market, last.unread) (g.R.Source.left a.source.now) (g.R.Source.left ran.source) (g.W.Sink.taken a.sink.now) (g.W.Sink.taken ran.sink) (g.W.Sink.taken c.explain.new.sink) (g.R.Source.failed ran.source) (g.W.Sink.failed c.explain.new.sink)
    c.in_err-explain.field-0.0 (begun.ensures.market ∙ c.in_ok-market.ensures.opened) begun.ensures.unread c.in_ok-session.ensures.all c.in_ok-session.ensures.working.0 front c.in_err-explain.ensures.cause)

pub returns-in_err-explain-clause-opening : goal.returns-in_err-explain-clause-opening
returns-in_err-explain-clause-opening g c =
    let p = err_from_is_err_and c.from_residual-in_err-explain.result c.from_residual-in_err-explain.ensures.1 in
    written-opening (opened_with c.args.options) c.in_ok-market.market c.from_residual-in_err-explain.result c.in_err-explain.field-0.0 c.in_ok-market.ensures.exact (p.1 ∙ ap (λ fault. Err fault) p.2)

pub returns-clause-explains : goal.returns-clause-explains
returns-clause-explains g c =
    let a = c.args in
    let begun = c.new in
    let ran = c.take_lines.new in
    let last = c.in_ok-session.session in
    let all : Appends (g.W.Sink.taken ran.sink) (g.W.Sink.taken c.explain.new.sink) (explanation_text last.market) =
    subst (λ (s : State). Appends (g.W.Sink.taken ran.sink) (g.W.Sink.taken c.explain.new.sink) (explanation_text s)) c.market.ensures c.in_ok-explain.ensures.all in
    rw c.unread.ensures (explain-answers (c.silence.ensures (λ now line. refl)) begun.result.market (opening_with a.options) begun.result.unread (last.market, last.unread) (g.R.Source.left a.source.now) (g.R.Source.left ran.source) (g.W.Sink.taken a.sink.now) (g.W.Sink.taken ran.sink) (g.W.Sink.taken c.explain.new.sink)
    (begun.ensures.market ∙ c.in_ok-market.ensures.opened) begun.ensures.unread c.in_ok-session.ensures.all all)
