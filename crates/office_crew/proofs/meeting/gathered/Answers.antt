use Rattle.std.proofs.Common.{◌≡◌, ◌∙◌, Some, ap, rules, subst}
use Rattle.std.proofs.lemmas.List.Elements.{All-push}
use Rattle.market_lock.specs.Seen.{OfPass, OfPlaced}
use Rattle.office_crew.specs.Callers.{who_is}
use Rattle.office_crew.proofs.Seats.{gathers_no_pass, gathers_no_placed, gathers_pass, gathers_placed, gathers_task}
use Rattle.office_crew.proofs.meeting.gathered.Goals as goal

pub loop-member-preserved-in-Free : goal.loop-member-preserved-in-Free
loop-member-preserved-in-Free g c =
    let i = c.loop-member.invariant in
    let left = c.loop-member.left.items in
    let rest = c.pop.new.self.items in
    let m = c.in-Some.member in
    let is = c.in-Some.ensures.items in
    let free = c.into_parts-caller.ensures.caller ∙ ap Some c.in-Free.is in (
      rw c.push_reserved-in-Free.ensures.items (All-push (λ (p : OfPass). p.table ≡ g.B.Room.table) c.loop-member.passes.items c.in-Free.pass i.0 (subst (λ x. (who_is x).table ≡ g.B.Room.table) c.in-Free.is c.into_parts-caller.ensures.own)),
      i.1,
      search rules,
      search rules,
      search rules,
      search rules,
      search rules,
      search rules,
      search rules,
      gathers_task left rest m is c.loop-member.tasks.items c.push_reserved.new.self.items c.into_parts-caller.result.1 c.push_reserved.ensures.items c.into_parts-caller.ensures.task ∙ i.9,
      gathers_pass left rest m is c.loop-member.passes.items c.push_reserved-in-Free.new.self.items c.in-Free.pass free c.push_reserved-in-Free.ensures.items ∙ i.10,
      gathers_no_placed left rest m is c.loop-member.placed.items c.in-Free.pass free ∙ i.11,
    )

pub loop-member-preserved : goal.loop-member-preserved
loop-member-preserved g c =
    let i = c.loop-member.invariant in
    let left = c.loop-member.left.items in
    let rest = c.pop.new.self.items in
    let m = c.in-Some.member in
    let is = c.in-Some.ensures.items in
    let working = c.into_parts-caller.ensures.caller ∙ ap Some c.in-Working.is in (
      i.0,
      rw c.push_reserved-in-Working.ensures.items (All-push (λ (p : OfPlaced). p.who.table ≡ g.B.Room.table) c.loop-member.placed.items c.in-Working.worker i.1 (subst (λ x. (who_is x).table ≡ g.B.Room.table) c.in-Working.is c.into_parts-caller.ensures.own)),
      search rules,
      search rules,
      search rules,
      search rules,
      search rules,
      search rules,
      search rules,
      gathers_task left rest m is c.loop-member.tasks.items c.push_reserved.new.self.items c.into_parts-caller.result.1 c.push_reserved.ensures.items c.into_parts-caller.ensures.task ∙ i.9,
      gathers_no_pass left rest m is c.loop-member.passes.items c.in-Working.worker working ∙ i.10,
      gathers_placed left rest m is c.loop-member.placed.items c.push_reserved-in-Working.new.self.items c.in-Working.worker working c.push_reserved-in-Working.ensures.items ∙ i.11,
    )
