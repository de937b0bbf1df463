use Rattle.std.proofs.Common.{ap, sym, ◌∙◌, arith}
use Rattle.journal_chart.specs.Rows.{Row}
use Rattle.journal_chart.specs.Steps.{taken_row}
use Rattle.journal_chart.proofs.Mapped.{mapped-more}
use Rattle.journal_chart.proofs.row.take_rows.Goals as goal

pub loop-index-preserved : goal.loop-index-preserved
loop-index-preserved c =
    let taken : Row → Row = taken_row c.args.place c.args.market.now c.args.cmd.now c.args.reply.now in
    mapped-more taken c.args.rows.now c.loop-index.rows c.loop-index.index c.index-rows-index.result c.take.new.self (omega arith) c.loop-index.invariant c.index-rows-index.is
    (c.take.ensures ∙ ap taken (sym c.index-rows-index.is))
