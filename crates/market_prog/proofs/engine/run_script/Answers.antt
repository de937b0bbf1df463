use Rattle.std.proofs.Common.{ap, ◌∙◌, Err}
use Rattle.std.proofs.lemmas.Result.{err_from_is_err_and}
use Rattle.market_types.specs.Opening.{opening_with}
use Rattle.market_prog.proofs.Runs.{run-answers, run-stops, run-prompt, read-fault}
use Rattle.market_prog.proofs.engine.run_script.Goals as goal

pub returns-in_err-session-clause-stops : goal.returns-in_err-session-clause-stops
returns-in_err-session-clause-stops g c = λ opened.
    let p = err_from_is_err_and c.from_residual-in_err-session.result c.from_residual-in_err-session.ensures.1 in
    let a = c.args in
    let begun = c.new in
    let ran = c.take_lines.new in
    rw (p.1, p.2) (run-stops _ begun.result.market (opening_with a.options) begun.result.unread (g.R.Source.left a.source.now) (g.R.Source.left ran.source) (g.W.Sink.taken a.sink.now) (g.W.Sink.taken ran.sink) (g.R.Source.failed ran.source) (g.W.Sink.failed ran.sink)
    c.in_err-session.field-0.0 (begun.ensures.market ∙ c.in_ok-market.ensures.opened) begun.ensures.unread c.in_err-session.ensures.stops)

pub returns-in_err-session-clause-prompt : goal.returns-in_err-session-clause-prompt
returns-in_err-session-clause-prompt g c e =
    let p = err_from_is_err_and c.from_residual-in_err-session.result c.from_residual-in_err-session.ensures.1 in
    let a = c.args in
    let begun = c.new in
    let ran = c.take_lines.new in
    let told = rw (p.1, p.2) at e in
    let read = read-fault c.in_err-session.field-0.0 (cc) in
    run-prompt begun.result.market (opening_with a.options) begun.result.unread (g.R.Source.left a.source.now) (g.R.Source.left ran.source) (g.W.Sink.taken a.sink.now) (g.W.Sink.taken ran.sink)
    (begun.ensures.market ∙ c.in_ok-market.ensures.opened) begun.ensures.unread (c.in_err-session.ensures.prompt (ap Err read))

pub returns-clause-answers : goal.returns-clause-answers
returns-clause-answers g c =
    let a = c.args in
    let begun = c.new in
    let ran = c.take_lines.new in
    rw c.unread.ensures (run-answers begun.result.market (opening_with a.options) begun.result.unread _ (g.R.Source.left a.source.now) (g.R.Source.left ran.source) (g.W.Sink.taken a.sink.now) (g.W.Sink.taken ran.sink)
    (begun.ensures.market ∙ c.in_ok-market.ensures.opened) begun.ensures.unread c.in_ok-session.ensures.all)
