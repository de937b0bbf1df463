use Rattle.std.proofs.Common.{codes, decimal}
use Rattle.journal_chart.proofs.Texts.{five}
use Rattle.journal_chart.proofs.picture.write_size.Goals as goal

pub returns-clause-text : goal.returns-clause-text
returns-clause-text c =
    five _ _ _ _ _ _ (codes "<svg xmlns=\"http://www.w3.org/2000/svg\" width=\"") (decimal c.args.wide) (codes "\" height=\"") (decimal c.args.high) (codes "\"") c.put.ensures.text
    c.write_number.ensures.text c.put-2.ensures.text c.write_number-2.ensures.text c.put-3.ensures.text
