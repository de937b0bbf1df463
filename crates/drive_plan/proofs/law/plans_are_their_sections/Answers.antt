use Rattle.drive_plan.proofs.Sectioned.{found-plan, read-plan, found-fault}
use Rattle.drive_plan.proofs.law.plans_are_their_sections.Goals as goal

pub returns-clause-found : goal.returns-clause-found
returns-clause-found c = found-plan

pub returns-clause-read : goal.returns-clause-read
returns-clause-read c = read-plan

pub returns-clause-told : goal.returns-clause-told
returns-clause-told c = found-fault
