use Rattle.std.proofs.Common.{ap, sym, ◌∙◌, arith}
use Rattle.journal_chart.specs.Rows.{Row}
use Rattle.journal_chart.specs.Steps.{passed_row}
use Rattle.journal_chart.proofs.Mapped.{mapped-more}
use Rattle.journal_chart.proofs.row.pass_rows.Goals as goal

pub loop-index-preserved : goal.loop-index-preserved
loop-index-preserved c =
    let passed : Row → Row = passed_row c.args.cmd.now c.args.reply.now in
    mapped-more passed c.args.rows.now c.loop-index.rows c.loop-index.index c.index-rows-index.result c.pass.new.self (omega arith) c.loop-index.invariant c.index-rows-index.is
    (c.pass.ensures ∙ ap passed (sym c.index-rows-index.is))
