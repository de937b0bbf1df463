use Rattle.std.proofs.lemmas.Result.{err_from_is_err_and}
use Rattle.market_prog.proofs.Telling.{stops-telling}
use Rattle.market_prog.proofs.replay.run_replay.Goals as goal

pub returns-in_err-found-clause-stops : goal.returns-in_err-found-clause-stops
returns-in_err-found-clause-stops g c =
    let p = err_from_is_err_and c.from_residual.result c.from_residual.ensures.1 in
    let a = c.args in
    rw (p.1, p.2) (stops-telling c.in_err-found.field-0.0 (g.R.Source.left a.source.now) (g.R.Source.left c.check_source.new.source) (g.W.Sink.taken a.sink.now) (g.R.Source.failed c.check_source.new.source) (g.W.Sink.failed a.sink.now) c.requires.sink_working c.in_err-found.ensures.stops)
