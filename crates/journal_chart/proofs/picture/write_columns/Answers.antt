use Rattle.std.proofs.Common.{◌≡◌, ◌++◌, ℕ, Bool, true, false, ap, refl, sym, ◌∙◌, append-nil, arith}
use Rattle.journal_chart.specs.Picture.{filled, row_goes_on, run_of, run_text}
use Rattle.journal_chart.proofs.Texts.{next-none, next-run, run_first-none, run_first-on, run_first-ends}
use Rattle.journal_chart.proofs.picture.write_columns.Goals as goal

pub loop-place-init : goal.loop-place-init
loop-place-init c =
    record {
      written = sym (append-nil c.args.page.now.text);
      begun = run_first-none (row_goes_on (filled c.args.sheet) c.args.row.now);
      low = omega arith;
      room = omega arith;
      size = refl;
    }

pub loop-place-preserved-then-goes_on : goal.loop-place-preserved-then-goes_on
loop-place-preserved-then-goes_on c =
    let goes_on : ℕ → Bool = row_goes_on (filled c.args.sheet) c.args.row.now in
    let on : goes_on c.loop-place.place ≡ true = cc in
    record {
      written = next-none goes_on (λ k. run_text c.args.sheet c.args.level c.args.scale c.args.row.now (run_of goes_on k)) c.loop-place.place _ _ on c.loop-place.invariant.written;
      begun = run_first-on goes_on c.loop-place.place _ on c.loop-place.invariant.begun;
      low = omega (arith, c.loop-place.invariant.low);
      room = omega (arith, c.loop-place.invariant.room);
      size = c.loop-place.invariant.size;
    }

pub loop-place-preserved : goal.loop-place-preserved
loop-place-preserved c =
    let goes_on : ℕ → Bool = row_goes_on (filled c.args.sheet) c.args.row.now in
    let ends : goes_on c.loop-place.place ≡ false = cc in
    record {
      written =
          next-run goes_on (λ k. run_text c.args.sheet c.args.level c.args.scale c.args.row.now (run_of goes_on k)) c.loop-place.place _ _ _ ends c.loop-place.invariant.written
          (c.write_run.ensures.text ∙ ap (λ first. c.loop-place.page.text ++ run_text c.args.sheet c.args.level c.args.scale c.args.row.now (record { first = first; last = c.loop-place.place })) c.loop-place.invariant.begun);
      begun = run_first-ends goes_on c.loop-place.place ends;
      low = omega arith;
      room = omega (arith, c.loop-place.invariant.room, c.write_run.ensures.room);
      size = c.write_run.ensures.size ∙ c.loop-place.invariant.size;
    }
