use Rattle.market_core.proofs.LevelWalk.{level-picked}
use Rattle.market_core.proofs.market.Market.mandatory_sharing.Goals as goal

pub returns-clause-exact : goal.returns-clause-exact
returns-clause-exact c level =
    record {
      fits = tt;
      rows = level-picked c.args.self.now c.divide.result.picked c.divide.result.bound level c.requires.none (c.divide.ensures.exact.picked c.requires.none) c.divide.ensures.exact.bound;
    }
