use Rattle.line_engine.proofs.Folds.{replies_to-silent}
use Rattle.line_engine.proofs.law.silence.Goals as goal

pub returns : goal.returns
returns g c = replies_to-silent g.A.LineTaker.rule
