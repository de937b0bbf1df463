use Rattle.std.proofs.Common.{◌≡◌, map, take}
use Rattle.journal_chart.specs.Steps.{empty_row}
use Rattle.journal_chart.proofs.lines.new_rows.Given as goal

abbrev pub invariant-loop-arena : goal.invariant-loop-arena
invariant-loop-arena l = l.rows.items ≡ map (empty_row l.columns) (take l.arena-index l.arenas)
