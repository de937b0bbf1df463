use Rattle.allotment.proofs.Sums.{sum-padded, sum-assigned, sum-carried, sum-carried-in_level}
use Rattle.allotment.proofs.law.bound_is_given_out.Goals as goal

pub returns-clause-asked : goal.returns-clause-asked
returns-clause-asked c = sum-padded

pub returns-clause-assigned : goal.returns-clause-assigned
returns-clause-assigned c = sum-assigned

pub returns-clause-allotted : goal.returns-clause-allotted
returns-clause-allotted c = sum-carried

pub returns-clause-in_a_level : goal.returns-clause-in_a_level
returns-clause-in_a_level c = sum-carried-in_level
