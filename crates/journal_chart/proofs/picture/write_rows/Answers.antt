use Rattle.std.proofs.lemmas.Grind.{common_steps}
use Rattle.std.proofs.Common.{◌≡◌, ◌++◌, true, ap, ◌∙◌, get_or, sym, arith}
use Rattle.std.proofs.lemmas.List.Sums.{count_by_more_yes}
use Rattle.journal_chart.specs.Pages.{Paged}
use Rattle.journal_chart.specs.Picture.{is_at, row_text}
use Rattle.journal_chart.proofs.Going.{at-err, gone-front, gone-more}
use Rattle.journal_chart.proofs.Texts.{row-taken}
use Rattle.journal_chart.proofs.picture.write_rows.Goals as goal

pub returns-in_err-put_all-clause-prefix : goal.returns-in_err-put_all-clause-prefix
returns-in_err-put_all-clause-prefix g c =
    let stands : is_at c.args.level c.row-item.result ≡ true = cc in
    let part : c.text.result.now ≡ row_text c.args.sheet c.args.level c.loop-row.below c.row-item.result =
    c.text.ensures ∙ c.write_row.ensures.text ∙ ap (λ (p : Paged). p.text ++ row_text c.args.sheet c.args.level c.loop-row.below c.row-item.result) c.clear.ensures in
    at-err _ c.from_residual.result
    (gone-front _ _ _ _ _ _ _ _ (row-taken c.args.sheet c.args.level c.loop-row.below c.args.rows.now c.loop-row.row-index c.row-item.result (omega arith) c.row-item.is stands)
    part c.loop-row.invariant.gone c.in_err-put_all.ensures.prefix)

pub loop-row-preserved : goal.loop-row-preserved
loop-row-preserved g c =
    let stands : is_at c.args.level c.row-item.result ≡ true = cc in
    let here : is_at c.args.level (get_or c.args.rows.now c.loop-row.row-index c.row-item.result) ≡ true = ap (is_at c.args.level) (sym c.row-item.is) ∙ stands in
    let more = count_by_more_yes (is_at c.args.level) c.args.rows.now c.loop-row.row-index c.row-item.result (omega arith) here in
    let part : c.text.result.now ≡ row_text c.args.sheet c.args.level c.loop-row.below c.row-item.result =
    c.text.ensures ∙ c.write_row.ensures.text ∙ ap (λ (p : Paged). p.text ++ row_text c.args.sheet c.args.level c.loop-row.below c.row-item.result) c.clear.ensures in
    record {
      gone =
          gone-more _ _ _ _ _ _ _ _ (row-taken c.args.sheet c.args.level c.loop-row.below c.args.rows.now c.loop-row.row-index c.row-item.result (omega arith) c.row-item.is stands)
          part c.loop-row.invariant.gone c.in_ok-put_all.ensures.all;
      working = c.in_ok-put_all.ensures.working ∙ c.loop-row.invariant.working;
      height = omega (arith, c.loop-row.invariant.height, more);
      low = omega (arith, c.loop-row.invariant.low);
      size = c.write_row.ensures.size ∙ ap (λ (p : Paged). p.size) c.clear.ensures ∙ c.loop-row.invariant.size;
    }

pub loop-row-preserved-then-not-is_at : goal.loop-row-preserved-then-not-is_at
loop-row-preserved-then-not-is_at c = grind (arith, common_steps)

pub returns-clause-written : goal.returns-clause-written
returns-clause-written c = grind (arith, common_steps)

pub returns-clause-end : goal.returns-clause-end
returns-clause-end c = grind (arith, common_steps)
