use Rattle.std.proofs.Common.{◌≡◌, ◌*◌, ◌≤◌}
use Rattle.std.specs.List.{sum_by, range_with_len}
use Rattle.market_types.specs.Allotment.{demand}
use Rattle.explainer.proofs.explanation.total_demand.Given as goal

-- what the levels so far ask for
abbrev pub invariant-loop-index : goal.invariant-loop-index
invariant-loop-index l = (l.total ≡ sum_by (demand l.market) (range_with_len 1 l.index)) × (l.total ≤ l.index * 67107840)
