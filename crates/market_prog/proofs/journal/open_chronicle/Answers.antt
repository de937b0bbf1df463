use Rattle.market_prog.proofs.Journaling.{opened-exact}
use Rattle.market_prog.proofs.journal.open_chronicle.Goals as goal

pub returns-clause-exact : goal.returns-clause-exact
returns-clause-exact c = opened-exact c.args.options c.on_terms.result c.on_terms.ensures.exact

pub returns-clause-opened : goal.returns-clause-opened
returns-clause-opened c = c.on_terms.ensures.opened
