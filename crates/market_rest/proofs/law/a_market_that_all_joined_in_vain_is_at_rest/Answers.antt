use Rattle.market_rest.proofs.Vain.{free, none}
use Rattle.market_rest.proofs.law.a_market_that_all_joined_in_vain_is_at_rest.Goals as goal

pub returns-clause-free : goal.returns-clause-free
returns-clause-free c = free

pub returns-clause-none : goal.returns-clause-none
returns-clause-none c = none
