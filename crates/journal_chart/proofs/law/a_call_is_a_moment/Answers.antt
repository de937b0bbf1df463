use Rattle.journal_chart.specs.Numbers.{chart_of}
use Rattle.journal_chart.proofs.Histories.{moments-more, state-more}
use Rattle.journal_chart.proofs.law.a_call_is_a_moment.Goals as goal

pub returns : goal.returns
returns c = λ most arenas start calls call i. chart_of most arenas (moments-more start calls call i) (state-more start calls call i)
