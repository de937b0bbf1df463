use Rattle.std.proofs.Common.{◌≡◌, ◌+◌, ◌-◌, ◌++◌}
use Rattle.std.specs.List.{sum_by, range_with_len}
use Rattle.market_types.specs.Allotment.{bound_of, levels_of}
use Rattle.market_core.specs.Allotted.{level_allotment}
use Rattle.explainer.specs.Explanation.{level_lines}
use Rattle.explainer.proofs.explanation.push_levels.Given as goal

-- what is written, and the lines of the levels that are left, are the lines of all
abbrev pub invariant-loop-index : goal.invariant-loop-index
invariant-loop-index l =
    record {
      lines : l.out.items ++ level_lines l.market 0 (range_with_len (l.index + 1) (l.market.levels - l.index)) ≡ l.initial.out.items ++ level_lines l.market 0 (levels_of l.market);
      left : l.left ≡ bound_of l.market - sum_by (level_allotment l.market) (range_with_len 1 l.index);
    }
