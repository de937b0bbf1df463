use Rattle.std.proofs.Common.{◌≡◌, max, drop}
use Rattle.journal_chart.specs.Cells.{levels_of}
use Rattle.journal_chart.specs.Highest.{highest_of}
use Rattle.journal_chart.proofs.sheet.highest_of.Given as goal

abbrev pub invariant-loop-cell : goal.invariant-loop-cell
invariant-loop-cell l = max l.level (highest_of (levels_of (drop l.cell-index l.cells))) ≡ highest_of (levels_of l.cells)
