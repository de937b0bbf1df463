use Rattle.std.proofs.Common.{◌≡◌, ◌++◌}
use Rattle.explainer.specs.Columns.{spaces}
use Rattle.explainer.proofs.column.push_spaces.Given as goal

abbrev pub invariant-loop : goal.invariant-loop
invariant-loop l = l.out.items ≡ l.initial.out.items ++ spaces l.counter
