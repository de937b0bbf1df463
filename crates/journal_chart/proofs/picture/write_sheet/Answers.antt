use Rattle.std.proofs.Common.{◌≡◌, ◌+◌, ◌++◌, [], append-nil, codes, sym, refl}
use Rattle.std.proofs.lemmas.Result.{on_err_weaker, on_ok_weaker}
use Rattle.journal_chart.specs.Picture.{axis_text, sheet_text}
use Rattle.journal_chart.proofs.Going.{Gone, at-err, gone-all, gone-front, gone-more, gone-none, two-put}
use Rattle.journal_chart.proofs.Texts.{sheet-begun, sheet-parts}
use Rattle.journal_chart.proofs.picture.write_sheet.Goals as goal
use Rattle.journal_chart.proofs.picture.write_sheet.Goals.{After-put_all-2}
use Rattle.journal_chart.proofs.picture.write_sheet.Given.{Over}

pub returns-in_err-put_all-clause-prefix : goal.returns-in_err-put_all-clause-prefix
returns-in_err-put_all-clause-prefix g c =
    at-err _ c.from_residual.result
    (gone-front _ _ _ _ _ _ _ _
    (sheet-parts c.args.sheet c.args.lines.now c.rows-rows.result.now c.wide.result c.levels_end-end.result c.rows-rows.ensures c.wide.ensures c.levels_end-end.ensures.exact)
    (two-put _ _ _ _ _ _ _ _ c.clear.ensures c.write_head.ensures.text c.write_limits.ensures.text c.text.ensures) (gone-none _ _) c.in_err-put_all.ensures.prefix)

pub returns-in_err-write_levels-clause-prefix : goal.returns-in_err-write_levels-clause-prefix
returns-in_err-write_levels-clause-prefix g c =
    at-err _ c.from_residual-in_err-write_levels.result
    (gone-front _ _ _ _ _ _ _ _ refl refl
    (sheet-begun _ _ c.args.sheet c.args.lines.now c.rows-rows.result.now c.wide.result c.levels_end-end.result _ c.rows-rows.ensures c.wide.ensures c.levels_end-end.ensures.exact
    (two-put _ _ _ _ _ _ _ _ c.clear.ensures c.write_head.ensures.text c.write_limits.ensures.text c.text.ensures) c.in_ok-put_all.ensures.all)
    c.in_err-write_levels.ensures.prefix)

-- the rows have gone out
module _ (g : Over) (c : After-put_all-2 g) where
  drawn : Gone (g.W.Sink.taken c.args.sink.now) (g.W.Sink.taken c.write_levels.new.sink) (axis_text c.args.sheet (c.levels_end-end.result + 20) ++ codes "</svg>\n") (sheet_text c.args.sheet c.args.lines.now)
  drawn =
      gone-more _ _ _ _ _ _ _ _ refl refl
      (sheet-begun _ _ c.args.sheet c.args.lines.now c.rows-rows.result.now c.wide.result c.levels_end-end.result _ c.rows-rows.ensures c.wide.ensures c.levels_end-end.ensures.exact
      (two-put _ _ _ _ _ _ _ _ c.clear.ensures c.write_head.ensures.text c.write_limits.ensures.text c.text.ensures) c.in_ok-put_all.ensures.all)
      c.in_ok-write_levels.ensures.written

  last : c.text-2.result.now ≡ axis_text c.args.sheet (c.levels_end-end.result + 20) ++ codes "</svg>\n"
  last = two-put _ _ _ _ _ _ _ _ c.clear-2.ensures c.write_axis.ensures.text c.put.ensures.text c.text-2.ensures

pub returns-clause-written : goal.returns-clause-written
returns-clause-written g c =
    on_ok_weaker c.put_all-2.result (λ h. gone-all _ _ _ _ refl (gone-more _ _ _ _ _ [] _ _ (sym (append-nil _)) (last g c) (drawn g c) h)) c.put_all-2.ensures.all

pub returns-clause-prefix : goal.returns-clause-prefix
returns-clause-prefix g c =
    on_err_weaker c.put_all-2.result (λ w. gone-front _ _ _ _ _ [] _ _ (sym (append-nil _)) (last g c) (drawn g c) w) c.put_all-2.ensures.prefix
