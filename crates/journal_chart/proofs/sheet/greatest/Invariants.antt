use Rattle.std.proofs.Common.{◌≡◌, max, drop}
use Rattle.journal_chart.specs.Picture.{greatest}
use Rattle.journal_chart.proofs.sheet.greatest.Given as goal

abbrev pub invariant-loop-column : goal.invariant-loop-column
invariant-loop-column l = max l.most (greatest (drop l.column-index l.columns)) ≡ greatest l.columns
