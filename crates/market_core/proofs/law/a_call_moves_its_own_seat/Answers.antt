use Rattle.market_core.proofs.Moved.{steps}
use Rattle.market_core.proofs.law.a_call_moves_its_own_seat.Goals as goal

pub returns-clause-seats : goal.returns-clause-seats
returns-clause-seats c = λ s seat cmd. (steps s seat cmd).seats

pub returns-clause-answers : goal.returns-clause-answers
returns-clause-answers c = λ s seat cmd. (steps s seat cmd).answers

pub returns-clause-base : goal.returns-clause-base
returns-clause-base c = λ s seat cmd. (steps s seat cmd).base

pub returns-clause-hard : goal.returns-clause-hard
returns-clause-hard c = λ s seat cmd. (steps s seat cmd).hard

pub returns-clause-levels : goal.returns-clause-levels
returns-clause-levels c = λ s seat cmd. (steps s seat cmd).levels

pub returns-clause-last : goal.returns-clause-last
returns-clause-last c = λ s seat cmd. (steps s seat cmd).last
