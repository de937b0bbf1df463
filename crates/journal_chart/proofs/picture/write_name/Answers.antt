use Rattle.std.proofs.Common.{◌≡◌, ◌++◌, ap, codes, decimal, ◌∙◌}
use Rattle.journal_chart.proofs.Texts.{behind, five, four}
use Rattle.journal_chart.proofs.picture.write_name.Goals as goal

pub returns-clause-text : goal.returns-clause-text
returns-clause-text c =
    let front = codes "<g transform=\"translate(0 " ++ (decimal c.args.y ++ (codes ")\"><text x=\"8\" y=\"24\">level " ++ decimal c.args.level)) in
    let level : c.write_number-2.new.page.text ≡ c.args.page.now.text ++ front =
    four _ _ _ _ _ (codes "<g transform=\"translate(0 ") (decimal c.args.y) (codes ")\"><text x=\"8\" y=\"24\">level ") (decimal c.args.level) c.put.ensures.text c.write_number.ensures.text
    c.put-2.ensures.text (c.write_number-2.ensures.text ∙ ap (λ n. c.put-2.new.self.text ++ decimal n) c.from.ensures) in
    behind c.args.page.now.text c.write_number-2.new.page.text c.put-5.new.self.text front _ level
    (five _ _ _ _ _ _ (codes ", arena ") (decimal c.args.row.now.arena) (codes "</text><text x=\"172\" y=\"10\" class=\"e\">") (decimal c.args.scale) (codes "</text>\n") c.put-3.ensures.text
    (c.write_number-3.ensures.text ∙ ap (λ n. c.put-3.new.self.text ++ decimal n) (c.from-2.ensures ∙ c.get.ensures ∙ c.arena.ensures)) c.put-4.ensures.text c.write_number-4.ensures.text c.put-5.ensures.text)
