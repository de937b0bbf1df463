use Rattle.std.proofs.Common.{◌+◌, ◌-◌, ◌*◌, ◌++◌, ap, codes, decimal, ◌∙◌}
use Rattle.journal_chart.proofs.Texts.{five}
use Rattle.journal_chart.proofs.figure.write_place.Goals as goal

pub returns-clause-text : goal.returns-clause-text
returns-clause-text c =
    five _ _ _ _ _ _ (codes "<g transform=\"matrix(") (decimal (c.args.run.last - c.args.run.first + 1)) (codes " 0 0 1 ") (decimal (180 + 8 * c.args.run.first)) c.args.end.now c.put.ensures.text
    (c.write_number.ensures.text ∙ ap (λ n. c.put.new.self.text ++ decimal (n + 1)) c.from.ensures) c.put-2.ensures.text
    (c.write_number-2.ensures.text ∙ ap (λ n. c.put-2.new.self.text ++ decimal (180 + 8 * n)) c.from-2.ensures) c.put-3.ensures.text
