use Rattle.std.proofs.Common.{◌≡◌, ◌∙◌, List, length, get_or, set, Some, ap, arith}
use Rattle.std.proofs.lemmas.List.{with_items_is}
use Rattle.journal_chart.specs.declared.cell.Cell.{Cell}
use Rattle.journal_chart.specs.Cells.{no_cell, row_of_cells, with_request}
use Rattle.journal_chart.specs.Lines.{added}
use Rattle.journal_chart.specs.Rows.{Row}
use Rattle.journal_chart.proofs.Celled.{request-more}
use Rattle.journal_chart.proofs.row.Row.add_request.Goals as goal

pub returns : goal.returns
returns c =
    let cells : List Cell = c.self.inside.cells.items in
    let here : c.cell_at.result ≡ get_or cells c.args.place no_cell = c.cell_at.ensures ∙ ap (λ xs. get_or xs c.args.place no_cell) c.deref.ensures.value in
    let made : c.with_request-cell.result ≡ with_request c.args.request (get_or cells c.args.place no_cell) = c.with_request-cell.ensures ∙ ap (with_request c.args.request) here in
    let whole = with_items_is c.self.inside.cells c.put_cell.new.cells (omega (arith, c.put_cell.auto.cells, ap length c.deref_mut.ensures.value, c.self.inside.cells.ok.0)) in
    ap (row_of_cells c.self.inside.arena c.self.inside.stands) (whole ∙ c.put_cell.ensures.cells ∙ (λ i. set (c.deref_mut.ensures.value i) c.args.place (made i)))
    ∙ request-more c.self.inside.arena c.self.inside.stands cells c.args.place c.args.request
    ∙ ap (λ (r : Row). record r { request = added c.args.place (Some c.args.request) r.request }) c.self.view_is
