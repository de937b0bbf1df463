use Rattle.std.proofs.Common.{◌≡◌, ◌+◌, ltb, drop}
use Rattle.std.specs.List.{position_from}
use Rattle.market_types.specs.Allotment.{first_demand}
use Rattle.allotment.proofs.level.top_level.Given as goal

-- no level so far asks for workers
abbrev pub invariant-loop-i : goal.invariant-loop-i
invariant-loop-i l = first_demand l.demands ≡ position_from (λ d. ltb 0 d) (l.i + 1) (drop l.i l.demands)
