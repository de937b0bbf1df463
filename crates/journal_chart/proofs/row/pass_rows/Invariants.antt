use Rattle.std.proofs.Common.{◌≡◌, ◌++◌, map, take, drop}
use Rattle.journal_chart.specs.Steps.{passed_row}
use Rattle.journal_chart.proofs.row.pass_rows.Given as goal

abbrev pub invariant-loop-index : goal.invariant-loop-index
invariant-loop-index l = l.rows ≡ map (passed_row l.cmd l.reply) (take l.index l.initial.rows) ++ drop l.index l.initial.rows
