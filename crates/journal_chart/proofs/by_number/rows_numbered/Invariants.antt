use Rattle.journal_chart.specs.Steps.{near_row}
use Rattle.journal_chart.proofs.Pairs.{Paired}
use Rattle.journal_chart.proofs.by_number.rows_numbered.Given as goal

abbrev pub invariant-loop-index : goal.invariant-loop-index
invariant-loop-index l = Paired (near_row l.place l.market l.cmd l.reply l.now l.kept) l.fn.rows l.fn.known l.rows l.known l.index

abbrev pub invariant-loop-index-2 : goal.invariant-loop-index-2
invariant-loop-index-2 l = Paired (near_row l.place l.market l.cmd l.reply l.now l.kept) l.fn.rows l.fn.known l.rows l.known l.index
