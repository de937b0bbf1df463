use Rattle.market_core.proofs.Staffed.{staffed}
use Rattle.market_core.proofs.law.placed_worker_is_allotted.Goals as goal

pub returns : goal.returns
returns c = staffed
