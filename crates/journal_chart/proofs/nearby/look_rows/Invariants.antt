use Rattle.journal_chart.specs.Rows.{Row}
use Rattle.journal_chart.specs.declared.row.Known.{Known}
use Rattle.journal_chart.specs.Steps.{seen_row}
use Rattle.journal_chart.proofs.Pairs.{Paired}
use Rattle.journal_chart.proofs.nearby.look_rows.Given as goal

abbrev pub invariant-loop-index : goal.invariant-loop-index
invariant-loop-index l = Paired (λ (r : Row) (k : Known). seen_row l.place l.market l.cmd l.reply r) l.initial.rows l.initial.known l.rows l.known l.index
