use Rattle.std.specs.Prelude.{is_some}
use Rattle.std.proofs.Common.{◌≡◌, ◌-◌, ◌≤◌, ◌∙◌, get_or, sym, ap, subst, ℕ, Option, None, Some, refl, false, arith, rules}
use Rattle.journal_chart.specs.Rows.{Row}
use Rattle.journal_chart.specs.declared.resting.Resting.{Resting}
use Rattle.journal_chart.specs.Resting.{IsResting}
use Rattle.journal_chart.proofs.AtRest.{one-more}
use Rattle.journal_chart.proofs.resting.Resting.of.Goals as goal

none-is : (o : Option ℕ) → is_some o ≡ false → o ≡ None
none-is None e = refl
none-is (Some n) e = search rules

pub loop-resting-preserved : goal.loop-resting-preserved
loop-resting-preserved c =
    let was : Resting = c.loop-resting.resting in
    let now : Resting = c.with-resting.result in
    let row : Row = c.index-rows-resting.result in
    let at : was.before - 1 ≡ now.before = omega (arith, c.with-resting.ensures.before) in
    let is : row ≡ get_or c.args.rows.now now.before row = c.index-rows-resting.is ∙ ap (λ n. get_or c.args.rows.now n row) at in
    let nowhere : row.stands ≡ None = none-is row.stands (ap is_some (sym c.stands.ensures) ∙ sym c.is_some.ensures ∙ c.if-is_some.false) in
    let here : IsResting now row =
    record {
      nowhere = nowhere;
      least = subst (λ (n : ℕ). now.least ≤ n) c.arena.ensures c.with-resting.ensures.from;
      most = subst (λ (n : ℕ). n ≤ now.most) c.arena.ensures c.with-resting.ensures.to;
    } in
    record {
      resting = one-more was now c.args.rows.now row c.loop-resting.invariant.resting c.with-resting.ensures.before c.loop-resting.invariant.within c.with-resting.ensures.least c.with-resting.ensures.most (subst (IsResting now) is here);
      within = omega (arith, c.loop-resting.invariant.within, c.with-resting.ensures.before);
    }
