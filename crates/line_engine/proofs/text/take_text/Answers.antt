use Rattle.std.proofs.Common.{ap, ◌∙◌}
use Rattle.std.proofs.lemmas.Result.{err_from_is_err_and}
use Rattle.line_engine.proofs.Whole.{whole-state, whole-stops, whole-stops_last}
use Rattle.line_engine.proofs.text.take_text.Goals as goal

pub returns-in_err-feed-clause-stops : goal.returns-in_err-feed-clause-stops
returns-in_err-feed-clause-stops g c =
    let t = g.A.LineTaker in
    let begun = c.new-lines in
    let p = err_from_is_err_and c.from_residual.result c.from_residual.ensures.1 in
    rw (p.1, p.2) (whole-stops t.rule t.LONGEST t.stops (t.state begun.result.answering.taker) (t.state c.args.taker) begun.result.unfinished.items c.args.text.now c.in_err-feed.field-0.0 (ap t.state begun.ensures.taker) begun.ensures.unfinished
    c.in_err-feed.ensures.cause)

pub returns-in_err-finish-clause-stops : goal.returns-in_err-finish-clause-stops
returns-in_err-finish-clause-stops g c =
    let t = g.A.LineTaker in
    let begun = c.new-lines in
    let p = err_from_is_err_and c.from_residual-in_err-finish.result c.from_residual-in_err-finish.ensures.1 in
    rw (p.1, p.2) (whole-stops_last t.rule t.LONGEST t.stops (t.state begun.result.answering.taker) (t.state c.args.taker) (t.state c.feed.new.self.answering.taker) _ _ begun.result.unfinished.items c.args.text.now c.feed.new.self.unfinished.items
    c.in_err-finish.field-0.0 (ap t.state begun.ensures.taker) begun.ensures.unfinished c.in_ok-feed.ensures.takes c.in_err-finish.ensures.cause)

pub returns-clause-all : goal.returns-clause-all
returns-clause-all g c =
    let t = g.A.LineTaker in
    let begun = c.new-lines in
    let is = ap t.state c.into_taker.ensures in
    whole-state t.rule t.LONGEST (t.state begun.result.answering.taker) (t.state c.args.taker) (t.state c.feed.new.self.answering.taker) _ _ _ begun.result.unfinished.items c.args.text.now c.feed.new.self.unfinished.items
    (ap t.state begun.ensures.taker) begun.ensures.unfinished c.in_ok-feed.ensures.takes (is ∙ c.in_ok-finish.ensures.state)
