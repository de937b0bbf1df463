use Rattle.journal_chart.proofs.Texts.{behind}
use Rattle.journal_chart.proofs.figure.write_bars.Goals as goal

pub returns-clause-text : goal.returns-clause-text
returns-clause-text c = behind _ _ _ _ _ c.write_span.ensures.text c.write_span-2.ensures.text
