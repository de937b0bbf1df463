use Rattle.std.proofs.Common.{◌≡◌, ◌++◌, length, take, drop}
use Rattle.market_types.specs.Allotment.{assigned_to}
use Rattle.allotment.proofs.level.assign.Given as goal

-- what was given so far and what is due to the rest
abbrev pub invariant-loop-i : goal.invariant-loop-i
invariant-loop-i l =
    record {
      size : length l.assigned ≡ 8;
      given : take l.i l.assigned ++ assigned_to (drop l.i l.demands) l.left ≡ assigned_to l.demands l.workers;
    }
