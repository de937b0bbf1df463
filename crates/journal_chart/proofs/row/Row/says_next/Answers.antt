use Rattle.std.proofs.Common.{◌∙◌}
use Rattle.journal_chart.specs.Cells.{same_cells}
use Rattle.journal_chart.proofs.Celled.{cells-say}
use Rattle.journal_chart.proofs.row.Row.says_next.Goals as goal

pub returns : goal.returns
returns c =
    c.is_same-2.ensures
    ∙ (λ i. same_cells (c.cell_at.ensures i) (c.cell_at-2.ensures i))
    ∙ cells-say c.args.self.now c.cells-cells.result.now c.args.place c.cells-cells.ensures.level c.cells-cells.ensures.request c.cells-cells.ensures.allot c.cells-cells.ensures.active c.cells-cells.ensures.recall c.cells-cells.ensures.hire
