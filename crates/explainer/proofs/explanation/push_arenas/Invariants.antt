use Rattle.std.proofs.Common.{◌≡◌, ◌-◌, ◌<◌, ◌++◌, drop}
use Rattle.market_types.specs.Allotment.{at_level, demand}
use Rattle.explainer.specs.Explanation.{arena_lines}
use Rattle.explainer.proofs.explanation.push_arenas.Given as goal

-- what is written, and the lines of the arenas that are left, are the lines of all
abbrev pub invariant-loop-view : goal.invariant-loop-view
invariant-loop-view l =
    record {
      lines : l.out.items ++ arena_lines l.market l.carry (drop l.index (at_level l.level l.market.arenas)) ≡ l.initial.out.items ++ arena_lines l.market 0 (at_level l.level l.market.arenas);
      carried : 0 < demand l.market l.level → l.carry < demand l.market l.level;
    }

abbrev pub decreases-loop-view : goal.decreases-loop-view
decreases-loop-view l = 1024 - l.index
