use Rattle.std.proofs.Common.{get_or, sym, ap, ◌∙◌, arith, inl, inr, subst}
use Rattle.std.proofs.lemmas.Bool.{cases_eq}
use Rattle.journal_chart.specs.Rows.{Row}
use Rattle.journal_chart.specs.Unkept.{IsAtLevel}
use Rattle.journal_chart.proofs.Pairs.{get-any}
use Rattle.journal_chart.proofs.by_number.are_at_levels.Goals as goal

pub loop-index-init : goal.loop-index-init
loop-index-init c = λ j d less. absurd (omega (arith, less))

pub loop-index-preserved : goal.loop-index-preserved
loop-index-preserved c = λ j d less. elim (cases_eq j c.loop-index.index) [
  | inl here ↦
      subst (λ (r : Row). IsAtLevel r.stands) (get-any c.args.rows.now c.loop-index.index c.index-rows-index.result d (omega arith) ∙ ap (λ k. get_or c.args.rows.now k d) (sym here)) (subst IsAtLevel (c.stands.ensures ∙ ap (λ (r : Row). r.stands) c.index-rows-index.is) c.is_at_level.ensures)
  | inr other ↦ c.loop-index.invariant j d (omega (arith, less, other))
]

pub returns : goal.returns
returns c = λ j d less. c.loop-index.invariant j d (omega (arith, less))
