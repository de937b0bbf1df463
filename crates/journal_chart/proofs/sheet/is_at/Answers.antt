use Rattle.std.proofs.Common.{◌∙◌, sym, ap}
use Rattle.std.specs.List.{list_any}
use Rattle.journal_chart.specs.declared.cell.Cell.{Cell}
use Rattle.journal_chart.specs.Picture.{stands_at}
use Rattle.journal_chart.proofs.Celled.{any-line}
use Rattle.journal_chart.proofs.sheet.is_at.Goals as goal

pub returns : goal.returns
returns c =
    let level = c.args.level in
    c.any_at.ensures ∙ sym (any-line (stands_at level) (λ (d : Cell). d.level) c.cells.result.now) ∙ ap (list_any (stands_at level)) c.cells.ensures.level
