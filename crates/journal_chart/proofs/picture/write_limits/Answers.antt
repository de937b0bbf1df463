use Rattle.std.proofs.Common.{◌≡◌, ◌++◌, subst}
use Rattle.journal_chart.specs.Picture.{limits_columns, limits_name}
use Rattle.journal_chart.proofs.Texts.{behind}
use Rattle.journal_chart.proofs.picture.write_limits.Goals as goal

pub returns-clause-text : goal.returns-clause-text
returns-clause-text c =
    subst (λ scale. c.write_limits_columns.new.page.text ≡ c.args.page.now.text ++ (limits_name scale ++ limits_columns c.args.sheet scale c.args.lines.now))
    c.limits_scale-scale.ensures.exact (behind _ _ _ _ _ c.write_limits_name.ensures.text c.write_limits_columns.ensures.text)
