use Rattle.std.proofs.Common.{◌≡◌, drop}
use Rattle.allotment.specs.Levels.{first_some}
use Rattle.allotment.proofs.level.mandatory_pick.Given as goal

-- no level so far has a pick
abbrev pub invariant-loop-pick : goal.invariant-loop-pick
invariant-loop-pick l = first_some l.picks ≡ first_some (drop l.pick-index l.picks)
