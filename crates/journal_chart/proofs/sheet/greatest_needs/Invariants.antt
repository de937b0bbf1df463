use Rattle.std.proofs.Common.{◌≡◌, max, drop}
use Rattle.journal_chart.specs.Cells.{actives_of, allots_of, requests_of}
use Rattle.journal_chart.specs.Picture.{greatest}
use Rattle.journal_chart.proofs.sheet.greatest_needs.Given as goal

abbrev pub invariant-loop-cell : goal.invariant-loop-cell
invariant-loop-cell l =
    max l.most (max (greatest (requests_of (drop l.cell-index l.cells))) (max (greatest (allots_of (drop l.cell-index l.cells))) (greatest (actives_of (drop l.cell-index l.cells)))))
    ≡ max (greatest (requests_of l.cells)) (max (greatest (allots_of l.cells)) (greatest (actives_of l.cells)))
