use Rattle.std.proofs.Common.{◌∙◌, sym, subst, inl, inr}
use Rattle.office_crew.specs.Callers.{who_is}
use Rattle.office_crew.specs.Scripts.{Answer, HasGiven}
use Rattle.office_crew.proofs.Scripts.{was_memory}
use Rattle.office_crew.proofs.script.Script.try_twice.Goals as goal

pub returns-then-is_missed-clause-tried : goal.returns-then-is_missed-clause-tried
returns-then-is_missed-clause-tried g c =
    let first = c.give-caller.ensures.given in
    let second = c.give.ensures.given in
    let m = who_is c.give-caller.result.0 in
    let between = c.give-caller.new.self.told in
    let memory = was_memory first.0 (sym first.2 ∙ c.if-is_missed.true) in
    inr (m, between, second.0, subst (λ (a : Answer). HasGiven c.args.cmd.now (who_is c.args.caller) c.args.self.now.told a m between) memory first.1, second.1)

pub returns-clause-tried : goal.returns-clause-tried
returns-clause-tried g c = let once = c.give-caller.ensures.given in inl (once.0, once.1, sym once.2 ∙ c.if-is_missed.false)
