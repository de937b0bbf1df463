use Rattle.std.proofs.Common.{◌≡◌, ◌++◌, map, take, drop}
use Rattle.journal_chart.specs.Steps.{halved_row}
use Rattle.journal_chart.proofs.row.halve_rows.Given as goal

abbrev pub invariant-loop-index : goal.invariant-loop-index
invariant-loop-index l = l.rows ≡ map halved_row (take l.index l.initial.rows) ++ drop l.index l.initial.rows
