use Rattle.std.proofs.Common.{◌∙◌, ap, sym, subst}
use Rattle.office_crew.specs.Callers.{may_give, who_is}
use Rattle.office_crew.specs.Scripts.{IsToldOf, OfScript}
use Rattle.office_crew.proofs.Scripts.{answered_so}
use Rattle.office_crew.proofs.script.Script.give.Goals as goal

pub returns-clause-given : goal.returns-clause-given
returns-clause-given g c =
    let asked = c.ask-caller.result in
    let a = c.ask-caller.ensures in (
      asked.answer,
      record {
        asked = a.asked ∙ sym (ap (λ o. may_give o c.args.cmd) c.arena_of.ensures.own);
        answered = answered_so (who_is c.args.caller) (who_is asked.caller) c.args.cmd asked.answer a.answered a.failed a.unasked;
        told = subst (λ (s : OfScript). IsToldOf s.told asked.answer c.push_answer.new.told.items) c.self.view_is c.push_answer.ensures;
      },
      c.lacked_memory.ensures,
    )
