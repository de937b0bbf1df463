use Rattle.std.proofs.Common.{◌≡◌, ◌∙◌, List, length, get_or, set, sym, ap, arith}
use Rattle.std.proofs.lemmas.List.{with_items_is}
use Rattle.journal_chart.specs.declared.cell.Cell.{Cell}
use Rattle.journal_chart.specs.Cells.{no_cell, row_of_cells, with_numbers}
use Rattle.journal_chart.specs.Rows.{Row}
use Rattle.journal_chart.specs.Steps.{viewed_row}
use Rattle.journal_chart.proofs.Celled.{more_numbers, numbers-more}
use Rattle.journal_chart.proofs.Thinned.{added-none}
use Rattle.journal_chart.proofs.row.Row.add_view.Goals as goal

pub returns : goal.returns
returns c =
    let cells : List Cell = c.self.inside.cells.items in
    let here : c.cell_at.result ≡ get_or cells c.args.place no_cell = c.cell_at.ensures ∙ ap (λ xs. get_or xs c.args.place no_cell) c.deref.ensures.value in
    let made : c.with_numbers-cell.result ≡ with_numbers c.in-Some.view.request c.in-Some.view.allot c.in-Some.view.active c.in-Some.view.recall c.in-Some.view.hire (get_or cells c.args.place no_cell) = c.with_numbers-cell.ensures ∙ ap (with_numbers c.in-Some.view.request c.in-Some.view.allot c.in-Some.view.active c.in-Some.view.recall c.in-Some.view.hire) here in
    let whole = with_items_is c.self.inside.cells c.put_cell.new.cells (omega (arith, c.put_cell.auto.cells, ap length c.deref_mut.ensures.value, c.self.inside.cells.ok.0)) in
    ap (row_of_cells c.self.inside.arena c.self.inside.stands) (whole ∙ c.put_cell.ensures.cells ∙ (λ i. set (c.deref_mut.ensures.value i) c.args.place (made i)))
    ∙ numbers-more c.self.inside.arena c.self.inside.stands cells c.args.place c.in-Some.view.request c.in-Some.view.allot c.in-Some.view.active c.in-Some.view.recall c.in-Some.view.hire
    ∙ ap (more_numbers c.args.place c.in-Some.view.request c.in-Some.view.allot c.in-Some.view.active c.in-Some.view.recall c.in-Some.view.hire) c.self.view_is
    ∙ (λ i. viewed_row c.args.place (sym c.in-Some.is i) c.args.self.now)

pub returns-in_default : goal.returns-in_default
returns-in_default c =
    let r : Row = c.args.self.now in
    let same = added-none c.args.place in
    (λ i. record r {
      request = sym (same r.request) i;
      allot = sym (same r.allot) i;
      active = sym (same r.active) i;
      recall = sym (same r.recall) i;
      hire = sym (same r.hire) i;
    })
    ∙ (λ i. viewed_row c.args.place (sym c.in_default.is i) r)
