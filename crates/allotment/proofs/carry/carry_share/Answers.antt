use Rattle.allotment.proofs.Carries.{quotient-few, carry_share-workers, carry_share-carry}
use Rattle.allotment.proofs.carry.carry_share.Goals as goal

pub returns-clause-no_more_than_asked : goal.returns-clause-no_more_than_asked
returns-clause-no_more_than_asked c = quotient-few c.args.request c.args.assigned c.args.demand c.args.carry c.requires.within_demand c.requires.carried

pub returns-clause-workers_of : goal.returns-clause-workers_of
returns-clause-workers_of c = λ given asked a asks. carry_share-workers given asked a c.args.assigned c.args.demand c.args.request c.args.carry asks c.requires.carried

pub returns-clause-carry_of : goal.returns-clause-carry_of
returns-clause-carry_of c = λ given asked a asks. carry_share-carry given asked a c.args.assigned c.args.demand c.args.request c.args.carry asks c.requires.carried
