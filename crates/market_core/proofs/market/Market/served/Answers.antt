use Rattle.std.proofs.Common.{sym, arith, ◌∙◌}
use Rattle.market_core.proofs.market.Market.served.Goals as goal

pub returns-then-limit-eq0-clause-exact : goal.returns-then-limit-eq0-clause-exact
returns-then-limit-eq0-clause-exact c = (sym c.requires.limit ∙ c.if-limit-eq0.true, c.mandatory_sharing.ensures.exact)

pub returns-else-limit-eq0-clause-exact : goal.returns-else-limit-eq0-clause-exact
returns-else-limit-eq0-clause-exact c = omega (arith, c.requires.limit, c.if-limit-eq0.false)
