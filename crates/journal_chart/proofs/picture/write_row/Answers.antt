use Rattle.std.proofs.Common.{◌≡◌, ◌++◌, codes, subst}
use Rattle.journal_chart.specs.Picture.{columns_text, name_text}
use Rattle.journal_chart.proofs.Texts.{three}
use Rattle.journal_chart.proofs.picture.write_row.Goals as goal

pub returns-clause-text : goal.returns-clause-text
returns-clause-text c =
    subst (λ scale. c.put.new.self.text ≡ c.args.page.now.text ++ (name_text c.args.level scale c.args.y c.args.row.now ++ (columns_text c.args.sheet c.args.level scale c.args.row.now ++ codes "</g>\n")))
    c.scale_of-scale.ensures.exact (three _ _ _ _ _ _ _ c.write_name.ensures.text c.write_columns.ensures.text c.put.ensures.text)
