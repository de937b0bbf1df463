use Rattle.std.proofs.Common.{◌∙◌, length, ap, arith}
use Rattle.std.proofs.lemmas.List.{with_items_is}
use Rattle.journal_chart.specs.Cells.{halved_cells, row_of_cells}
use Rattle.journal_chart.specs.Steps.{halved_row}
use Rattle.journal_chart.proofs.Celled.{row-halved}
use Rattle.journal_chart.proofs.row.Row.halve.Goals as goal

pub returns : goal.returns
returns c =
    let whole = with_items_is c.self.inside.cells c.halve.new.things (omega (arith, c.halve.auto.things, ap length c.deref_mut.ensures.value, c.self.inside.cells.ok.0)) in
    ap (row_of_cells c.self.inside.arena c.self.inside.stands) (whole ∙ c.halve.ensures ∙ ap halved_cells c.deref_mut.ensures.value)
    ∙ row-halved c.self.inside.arena c.self.inside.stands c.self.inside.cells.items
    ∙ ap halved_row c.self.view_is
