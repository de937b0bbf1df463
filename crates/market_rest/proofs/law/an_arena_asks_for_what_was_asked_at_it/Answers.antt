use Rattle.market_rest.proofs.Alike.{stays_alike}
use Rattle.market_rest.proofs.law.an_arena_asks_for_what_was_asked_at_it.Goals as goal

pub returns : goal.returns
returns c = stays_alike
