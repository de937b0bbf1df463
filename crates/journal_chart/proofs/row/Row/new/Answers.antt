use Rattle.std.proofs.Common.{◌∙◌, replicate, ap}
use Rattle.journal_chart.specs.Cells.{row_of_cells}
use Rattle.journal_chart.proofs.Celled.{row-empty}
use Rattle.journal_chart.proofs.row.Row.new.Goals as goal

pub returns : goal.returns
returns c =
    (λ i. row_of_cells c.args.arena (c.of.ensures i) ((c.in_ok-vec.ensures.items_if_clones_equal (λ y e. e) ∙ ap (replicate c.args.columns) c.none.ensures) i))
    ∙ row-empty c.args.columns c.args.arena
