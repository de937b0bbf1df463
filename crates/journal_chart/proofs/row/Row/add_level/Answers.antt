use Rattle.std.proofs.Common.{◌≡◌, ◌∙◌, List, length, get_or, set, ap, arith}
use Rattle.std.proofs.lemmas.List.{with_items_is}
use Rattle.journal_chart.specs.declared.cell.Cell.{Cell}
use Rattle.journal_chart.specs.Cells.{no_cell, row_of_cells, with_level}
use Rattle.journal_chart.specs.Steps.{standing_row}
use Rattle.journal_chart.proofs.Celled.{level-more}
use Rattle.journal_chart.proofs.row.Row.add_level.Goals as goal

pub returns : goal.returns
returns c =
    let cells : List Cell = c.self.inside.cells.items in
    let here : c.cell_at.result ≡ get_or cells c.args.place no_cell = c.cell_at.ensures ∙ ap (λ xs. get_or xs c.args.place no_cell) c.deref.ensures.value in
    let made : c.with_level-cell.result ≡ with_level c.self.inside.stands (get_or cells c.args.place no_cell) = c.with_level-cell.ensures ∙ ap (with_level c.self.inside.stands) here in
    let whole = with_items_is c.self.inside.cells c.put_cell.new.cells (omega (arith, c.put_cell.auto.cells, ap length c.deref_mut.ensures.value, c.self.inside.cells.ok.0)) in
    ap (row_of_cells c.self.inside.arena c.self.inside.stands) (whole ∙ c.put_cell.ensures.cells ∙ (λ i. set (c.deref_mut.ensures.value i) c.args.place (made i)))
    ∙ level-more c.self.inside.arena c.self.inside.stands cells c.args.place
    ∙ ap (standing_row c.args.place) c.self.view_is
