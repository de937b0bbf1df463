use Rattle.std.proofs.Common.{◌≡◌, take}
use Rattle.market_lock.specs.Seen.{IsSamePass}
use Rattle.office_crew.specs.Callers.{who_is}
use Rattle.office_crew.specs.Scripts.{HasGivenEach}
use Rattle.office_crew.proofs.script.ScriptTask.work.Given as goal

abbrev pub invariant-loop-cmd : goal.invariant-loop-cmd
invariant-loop-cmd g l =
    IsSamePass (who_is l.fn.caller) (who_is l.caller)
    × (l.self.cmds ≡ l.fn.self.cmds)
    × HasGivenEach (take l.cmd-index l.fn.self.cmds) (who_is l.fn.caller) l.fn.self.told (who_is l.caller) l.self.told
