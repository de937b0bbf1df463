use Rattle.office_crew.specs.Members.{HasDone}
use Rattle.office_crew.proofs.Seats.{zip_turned}
use Rattle.office_crew.proofs.member.work_at_once.Goals as goal

pub returns-clause-done : goal.returns-clause-done
returns-clause-done g c =
    zip_turned (HasDone g.T.Task.worked) c.args.members.items c.reverse.new.self.items c.work_vec_at_once-members.result.items c.reverse-2.new.self.items c.reverse.ensures.items c.work_vec_at_once-members.ensures.done c.reverse-2.ensures.items
