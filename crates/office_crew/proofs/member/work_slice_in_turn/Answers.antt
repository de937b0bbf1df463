use Rattle.std.proofs.Common.{◌<◌, rules, length}
use Rattle.std.proofs.lemmas.List.{get_or_default}
use Rattle.office_crew.specs.Members.{HasDone}
use Rattle.office_crew.proofs.Seats.{done_more, zip_from}
use Rattle.office_crew.proofs.member.work_slice_in_turn.Goals as goal

pub loop-place-preserved : goal.loop-place-preserved
loop-place-preserved g c =
    let k = c.loop-place.place in
    let ys = c.loop-place.members in
    let low : k < length ys = search rules in
    done_more (HasDone g.T.Task.worked) c.args.members.now ys k _ c.work_one.new.member low (get_or_default ys k _ _ low) c.work_one.ensures c.loop-place.invariant

pub returns : goal.returns
returns g c = zip_from (HasDone g.T.Task.worked) c.args.members.now c.loop-place.members (search rules) (λ k d lt. c.loop-place.invariant.1 k d (search rules))
