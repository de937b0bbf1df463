use Rattle.std.proofs.Common.{ap, sym, ◌∙◌, arith}
use Rattle.journal_chart.specs.Steps.{halved_row}
use Rattle.journal_chart.proofs.Mapped.{mapped-more}
use Rattle.journal_chart.proofs.row.halve_rows.Goals as goal

pub loop-index-preserved : goal.loop-index-preserved
loop-index-preserved c =
    mapped-more halved_row c.args.rows.now c.loop-index.rows c.loop-index.index c.index-rows-index.result c.halve.new.self (omega arith) c.loop-index.invariant c.index-rows-index.is
    (c.halve.ensures ∙ ap halved_row (sym c.index-rows-index.is))
