use Rattle.journal_chart.proofs.figure.+write_long.Given as goal

abbrev pub decreases-write_long : goal.decreases-write_long
decreases-write_long l = l.number
