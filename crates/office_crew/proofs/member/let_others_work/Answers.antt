use Rattle.std.proofs.Common.{◌≡◌, rules, true, false, All, sym, subst, arith}
use Rattle.std.proofs.lemmas.List.{take_all}
use Rattle.office_crew.proofs.member.let_others_work.Goals as goal

pub returns-then-not-lets_others_work-clause-one :
    goal.returns-then-not-lets_others_work-clause-one
returns-then-not-lets_others_work-clause-one g c told =
    let no : c.lets_others_work.result ≡ false = search rules in
    (c.member-item.result, (c.loop-member.member-index, c.loop-member-test.true, sym c.member-item.is), subst (λ b. g.T.Task.lets c.member-item.result.task b) no c.lets_others_work.ensures)

pub returns-clause-all : goal.returns-clause-all
returns-clause-all g c told =
    subst (All (λ m. g.T.Task.lets m.task true)) (take_all c.loop-member.member-index c.args.members.now (omega (arith, c.loop-member-test.false))) c.loop-member.invariant
