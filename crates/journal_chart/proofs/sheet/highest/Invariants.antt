use Rattle.std.proofs.Common.{◌≡◌, max, drop}
use Rattle.journal_chart.specs.Highest.{highest}
use Rattle.journal_chart.proofs.sheet.highest.Given as goal

abbrev pub invariant-loop-row : goal.invariant-loop-row
invariant-loop-row l = max l.level (highest (drop l.row-index l.rows)) ≡ highest l.rows
