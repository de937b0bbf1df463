use Rattle.std.proofs.Common.{◌≡◌, ◌-◌, ◌∙◌, List, Option, None, length, get_or, map, set, refl, sym, ap, arith}
use Rattle.std.proofs.lemmas.List.{with_items_is}
use Rattle.journal_chart.specs.declared.cell.Cell.{Cell}
use Rattle.journal_chart.specs.declared.span.Span.{Span}
use Rattle.journal_chart.specs.declared.row.Known.{Known}
use Rattle.journal_chart.specs.Cells.{no_cell, row_of_cells, with_level, with_numbers}
use Rattle.journal_chart.specs.Covering.{covered}
use Rattle.journal_chart.specs.Lines.{at}
use Rattle.journal_chart.specs.Rows.{Row}
use Rattle.journal_chart.specs.Steps.{shared_row}
use Rattle.journal_chart.proofs.Celled.{all-more, line-at}
use Rattle.journal_chart.proofs.row.Row.tell.Goals as goal

-- what is told is put into the row's cells
told : (c : goal.After-known_by) → row_of_cells c.self.inside.arena c.self.inside.stands c.put_cell-cell.new.cells ≡ shared_row c.args.place c.args.known.now c.args.allot c.args.self.now
told c =
    let cells : List Cell = c.self.inside.cells.items in
    let k : Known = c.args.known.now in
    let here : c.cell_at.result ≡ get_or cells c.args.place no_cell = c.cell_at.ensures ∙ ap (λ xs. get_or xs c.args.place no_cell) c.deref.ensures.value in
    let made : c.told-cell.result ≡ with_numbers k.request c.args.allot k.active (k.active - c.args.allot) (c.args.allot - k.active) (with_level c.self.inside.stands (get_or cells c.args.place no_cell)) =
    c.told-cell.ensures
    ∙ (λ i. with_numbers k.request c.args.allot k.active (c.saturating_sub-recall.ensures i) (c.saturating_sub-hire.ensures i) (with_level c.self.inside.stands (here i))) in
    ap (row_of_cells c.self.inside.arena c.self.inside.stands) (c.put_cell-cell.ensures.cells ∙ (λ i. set (c.deref_mut.ensures.value i) c.args.place (made i)))
    ∙ all-more c.self.inside.arena c.self.inside.stands cells c.args.place k.request c.args.allot k.active (k.active - c.args.allot) (c.args.allot - k.active)
    ∙ ap (shared_row c.args.place k c.args.allot) c.self.view_is

pub returns-clause-row : goal.returns-clause-row
returns-clause-row c =
    ap (row_of_cells c.self.inside.arena c.self.inside.stands)
    (with_items_is c.self.inside.cells c.put_cell-cell.new.cells (omega (arith, c.put_cell-cell.auto.cells, ap length c.deref_mut.ensures.value, c.self.inside.cells.ok.0)))
    ∙ told c

pub returns-clause-known : goal.returns-clause-known
returns-clause-known c =
    let place = c.args.place in
    let k : Known = c.args.known.now in
    let shared : Row = shared_row place k c.args.allot c.args.self.now in
    let after : List Cell = c.put_cell-cell.new.cells in
    let there : c.put_cell-cell.result ≡ get_or after place no_cell = c.put_cell-cell.ensures.there ∙ ap (λ cells. get_or cells place no_cell) (sym c.put_cell-cell.ensures.cells) in
    let said : (line : Cell → Option Span) (of : Row → List (Option Span)) → line no_cell ≡ None → map line after ≡ of shared → line c.put_cell-cell.result ≡ at (of shared) place =
    λ line of none same. ap line there ∙ sym (line-at line after place none) ∙ ap (λ l. at l place) same in
    let allot = said (λ d. d.allot) (λ r. r.allot) refl (ap (λ (r : Row). r.allot) (told c)) in
    let recall = said (λ d. d.recall) (λ r. r.recall) refl (ap (λ (r : Row). r.recall) (told c)) in
    let hire = said (λ d. d.hire) (λ r. r.hire) refl (ap (λ (r : Row). r.hire) (told c)) in
    λ i. record {
      request = c.known_by.ensures.request i;
      active = c.known_by.ensures.active i;
      covered = (c.known_by.ensures.covered ∙ (λ j. covered (allot j) (recall j) (hire j) k.active)) i;
      spot = c.known_by.ensures.spot i;
    }
