use Rattle.std.proofs.Common.{sym, ap, ◌∙◌}
use Rattle.journal_chart.specs.Steps.{stands_kept}
use Rattle.journal_chart.proofs.Numbered.{other-row}
use Rattle.journal_chart.proofs.nearby.other_row.Goals as goal

pub returns-then-not-is_covered-clause-exact : goal.returns-then-not-is_covered-clause-exact
returns-then-not-is_covered-clause-exact g c cmd reply other =
    let moved = ap (stands_kept c.args.kept.now) (sym c.stands.ensures) ∙ sym c.stands_kept.ensures ∙ c.if-stands_kept.false in
    let uncovered = sym c.is_covered.ensures ∙ c.if-not-is_covered.true in
    c.settle_other.ensures.exact cmd reply
    ∙ sym (other-row c.args.place c.args.market.now cmd reply c.args.now.now c.args.kept.now c.args.row.now c.args.known.now c.in-Some.level other moved (sym c.stands-2.ensures ∙ c.in-Some.is) uncovered)
