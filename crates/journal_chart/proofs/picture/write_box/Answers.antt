use Rattle.std.proofs.Common.{codes, decimal}
use Rattle.journal_chart.proofs.Texts.{five}
use Rattle.journal_chart.proofs.picture.write_box.Goals as goal

pub returns-clause-text : goal.returns-clause-text
returns-clause-text c =
    five _ _ _ _ _ _ (codes " viewBox=\"0 0 ") (decimal c.args.wide) (codes " ") (decimal c.args.high) (codes "\">\n") c.put.ensures.text c.write_number.ensures.text c.put-2.ensures.text
    c.write_number-2.ensures.text c.put-3.ensures.text
