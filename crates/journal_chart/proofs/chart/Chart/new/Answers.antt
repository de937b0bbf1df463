use Rattle.std.proofs.Common.{◌∙◌}
use Rattle.journal_chart.proofs.Charts.{charted, chart-empty}
use Rattle.journal_chart.proofs.chart.Chart.new.Goals as goal

pub returns : goal.returns
returns c =
    record { opened = λ s none. (λ i. charted c.args.columns 0 (c.in_ok-new.ensures i)) ∙ chart-empty c.args.columns s c.args.arenas.now none }
