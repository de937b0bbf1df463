use Rattle.std.proofs.Common.{rules, get_or, subst}
use denote.Param.Send.{sendable}
use Rattle.std.proofs.Crossing.{crosses}
use Rattle.office_crew.specs.Members.{HasDone}
use Rattle.office_crew.proofs.Crossing.{member_send}
use Rattle.office_crew.proofs.Seats.{zip_from}
use Rattle.office_crew.proofs.member.work_slice_at_once.Goals as goal

pub for_each_mut-requires-send-T : goal.for_each_mut-requires-send-T
for_each_mut-requires-send-T g c κs within = search (crosses, sendable, member_send) depth 60

pub returns : goal.returns
returns g c =
    zip_from (HasDone g.T.Task.worked) c.args.members.now c.for_each_mut.new.s (search rules)
    (λ k d lt.
    let at = (c.for_each_mut.ensures k d lt).1 in
    subst (HasDone g.T.Task.worked (get_or c.args.members.now k d)) at.left (subst (λ m. HasDone g.T.Task.worked m at.after_call.now) at.argument_is at.call))
