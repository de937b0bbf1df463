use Rattle.std.proofs.lemmas.Grind.{common_steps}
use Rattle.std.proofs.Common.{length, refl, sym, ap, ◌∙◌, subst, arith}
use Rattle.std.proofs.lemmas.List.{length-map}
use Rattle.market_types.specs.State.{opening_to}
use Rattle.journal_chart.specs.Numbers.{Charted}
use Rattle.journal_chart.specs.Steps.{Making}
use Rattle.journal_chart.specs.Journals.{Charts}
use Rattle.journal_chart.proofs.Arenas.{numbered-chart}
use Rattle.journal_chart.proofs.Making.{charts}
use Rattle.journal_chart.proofs.journal.chart_source.Goals as goal

pub invariant_of-making : goal.invariant_of-making
invariant_of-making g c =
    let new = c.in_ok-new.ensures.opened (opening_to 1 1 1 1 1) refl in (
      omega (arith, ap (λ (d : Charted). d.moments) new),
      (
        omega (arith, c.in_ok-vec.ensures.len, c.in_ok-vec.field-0.ok.0, ap (λ (d : Charted). length d.lines.rows) new ∙ length-map c.args.arenas.now _),
        numbered-chart c.numbering.result c.args.columns c.args.arenas.now (opening_to 1 1 1 1 1) c.in_ok-new.field-0 new c.numbering.ensures,
      ),
    )

pub returns-clause-charts : goal.returns-clause-charts
returns-clause-charts g c =
    let left = g.R.Source.left c.args.source.now in
    let left' = g.R.Source.left c.watch_source.new.source in
    subst (λ (m : Making). Charts c.args.columns c.args.arenas.now c.args.from c.args.to left left' c.in_ok-found.found m.followed.chart) (sym c.making.view_is)
    (charts c.no_carry_to_keep.ensures.after_a_level c.args.columns c.args.arenas.now c.args.from c.args.to c.in_ok-new.field-0 _ _ c.in_ok-found.making left left' c.in_ok-found.found
    c.requires.some c.in_ok-new.ensures.opened c.in_ok-found.ensures.watches)

pub returns-in_err-vec-clause-charts : goal.returns-in_err-vec-clause-charts
returns-in_err-vec-clause-charts c = grind (arith, common_steps)

pub returns-in_err-vec-clause-end : goal.returns-in_err-vec-clause-end
returns-in_err-vec-clause-end c = grind (arith, common_steps)

pub returns-in_err-vec-clause-whole : goal.returns-in_err-vec-clause-whole
returns-in_err-vec-clause-whole c = grind (arith, common_steps)

pub returns-in_err-vec-clause-working : goal.returns-in_err-vec-clause-working
returns-in_err-vec-clause-working c = grind (arith, common_steps)
