use Rattle.journal_chart.specs.Steps.{seat_row}
use Rattle.journal_chart.proofs.Pairs.{Paired}
use Rattle.journal_chart.proofs.nearby.each_seat_row.Given as goal

abbrev pub invariant-loop-index : goal.invariant-loop-index
invariant-loop-index l = Paired (seat_row l.place l.market l.cmd l.reply l.more l.now) l.initial.rows l.initial.known l.rows l.known l.index
