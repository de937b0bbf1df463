use Rattle.std.proofs.Common.{◌∙◌, IfSome, arith, refl, sym, subst}
use Rattle.office_crew.specs.Callers.{who_is}
use Rattle.worker_main.proofs.Calls.{goes_on, goes_further, lacked}
use Rattle.market_drive.proofs.Openings.{fault_was, given_all, given_on, gone_on, none_given}
use Rattle.worker_main.specs.declared.report.Ended.TheVariants.{Call}
use Rattle.market_drive.specs.Causes.{HasEndedSo}
use Rattle.market_drive.proofs.opener.OpenerTask.work.Goals as goal

pub loop-cmd-init : goal.loop-cmd-init
loop-cmd-init g c = (goes_on (who_is c.args.caller), refl, none_given (who_is c.args.caller))

pub ask-next-requires : goal.ask-next-requires
ask-next-requires g c = record { office = c.loop-cmd.invariant.0.0.0 ∙ c.requires.office }

pub loop-cmd-preserved : goal.loop-cmd-preserved
loop-cmd-preserved g c =
    let i = c.loop-cmd.invariant in
    let a = c.ask-next.ensures in
    let none = sym c.fault_in.ensures ∙ c.in_default.is in (
      goes_further (who_is c.args.caller) (who_is c.loop-cmd.caller) (who_is c.ask-next.result.caller) i.0 (gone_on c.loop-cmd.caller c.ask-next.result.caller c.cmd-item.result c.ask-next.result.answer none a.answered a.unasked),
      i.1,
      given_on c.args.self.now.cmds.now c.loop-cmd.cmd-index c.cmd-item.result (who_is c.args.caller) c.loop-cmd.caller c.ask-next.result.caller c.ask-next.result.answer c.loop-cmd-test.true c.cmd-item.is i.2 none a.answered a.asked a.unasked,
    )

pub returns-in-Some-clause-worked : goal.returns-in-Some-clause-worked
returns-in-Some-clause-worked g c =
    let next = who_is c.ask-next.result.caller in
    let fails = c.ask-next.ensures.failed c.in-Some.fault (fault_was c.ask-next.result.answer c.in-Some.fault (sym c.fault_in.ensures ∙ c.in-Some.is)) in
    (tt, λ new. (tt, lacked (who_is c.args.caller) (who_is c.loop-cmd.caller) next next c.cmd-item.result c.in-Some.fault c.loop-cmd.invariant.0 fails (goes_on next), tt))

pub returns-clause-worked : goal.returns-clause-worked
returns-clause-worked g c = (
  given_all c.args.self.now.cmds.now c.loop-cmd.cmd-index (who_is c.args.caller) (who_is c.loop-cmd.caller) c.loop-cmd.self.fault (omega (arith, c.loop-cmd-test.false)) c.loop-cmd.invariant.2,
  λ new. subst (λ o. IfSome o (λ fault. HasEndedSo (who_is c.args.caller) (who_is c.loop-cmd.caller) (Call fault))) (sym (c.loop-cmd.invariant.1 ∙ new)) tt,
)
