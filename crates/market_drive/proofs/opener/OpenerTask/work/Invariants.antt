use Rattle.std.proofs.Common.{◌≡◌, take}
use Rattle.worker_main.specs.Steps.{HasGoneOn}
use Rattle.office_crew.specs.Callers.{who_is}
use Rattle.market_drive.specs.Opening.{HasGiven}
use Rattle.market_drive.proofs.opener.OpenerTask.work.Given as goal

abbrev pub invariant-loop-cmd : goal.invariant-loop-cmd
invariant-loop-cmd g l =
    HasGoneOn (who_is l.fn.caller) (who_is l.caller)
    × (l.self.fault ≡ l.fn.self.fault)
    × HasGiven (take l.cmd-index l.fn.self.cmds.now) (who_is l.fn.caller) (who_is l.caller)
