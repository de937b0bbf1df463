use Rattle.std.proofs.Common.{◌≡◌, rules, true, false, Contains, All, List, inl, inr, refl, subst}
use Rattle.office_crew.specs.Members.{OfMember}
use Rattle.office_crew.proofs.meeting.work_in_order.Goals as goal

pub returns-then-not-let_others_work-clause-others :
    goal.returns-then-not-let_others_work-clause-others
returns-then-not-let_others_work-clause-others g c =
    let no : c.let_others_work.result ≡ false = search rules in
    inr (subst (λ (l : List (OfMember g.row.O.Denot)). (m : OfMember g.row.O.Denot) × Contains l m × g.O.Task.lets m.task false) c.as_slice.ensures.value (c.let_others_work.ensures.one no), refl)

pub returns-clause-others : goal.returns-clause-others
returns-clause-others g c =
    let yes' : c.let_others_work.result ≡ true = search rules in
    inl (subst (All (λ (m : OfMember g.row.O.Denot). g.O.Task.lets m.task true)) c.as_slice.ensures.value (c.let_others_work.ensures.all yes'), c.work_at_once.ensures.done)
