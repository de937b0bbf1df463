use Rattle.std.proofs.Common.{◌≡◌, ◌∙◌, ◌<◌, List, length, get_or, ap, arith, refl}
use Rattle.market_types.specs.declared.command.Cmd.{Cmd}
use Rattle.office_crew.specs.Callers.{who_is}
use Rattle.office_crew.specs.Scripts.{OfScript}
use Rattle.office_crew.proofs.Scripts.{given_next}
use Rattle.office_crew.proofs.script.ScriptTask.work.Goals as goal

pub loop-cmd-init : goal.loop-cmd-init
loop-cmd-init g c = ((refl, refl, refl), refl, (refl, refl))

pub loop-cmd-preserved : goal.loop-cmd-preserved
loop-cmd-preserved g c =
    let i = c.loop-cmd.invariant in
    let cmds = c.args.self.now.cmds in
    let k = c.loop-cmd.cmd-index in
    let cmd = c.cmd-item.result in
    let next = c.try_twice-caller in
    let same = next.ensures.same in
    let own : c.self.inside.cmds.now ≡ cmds = ap (λ (s : OfScript). s.cmds) c.self.view_is in
    let low : k < length cmds = omega (arith, ap (λ (xs : List Cmd). length xs) own, c.loop-cmd-test.true) in
    let is : cmd ≡ get_or cmds k cmd = cc (own, c.cmd-item.is) in (
      (same.0 ∙ i.0.0, same.1 ∙ i.0.1, same.2 ∙ i.0.2),
      next.ensures.commands ∙ i.1,
      given_next cmds k cmd (who_is c.args.caller) (who_is c.loop-cmd.caller) (who_is next.result) c.args.self.now.told c.loop-cmd.self.told next.new.self.told low is i.2 next.ensures.tried,
    )
