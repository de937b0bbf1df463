use Rattle.std.proofs.Common.{◌≡◌, ◌++◌, ℕ, Bool, true, false, ap, refl, sym, ◌∙◌, append-nil, arith}
use Rattle.journal_chart.specs.Picture.{filled, limits_go_on, limits_run, run_of}
use Rattle.journal_chart.proofs.Texts.{next-none, next-run, run_first-none, run_first-on, run_first-ends}
use Rattle.journal_chart.proofs.picture.write_limits_columns.Goals as goal

pub loop-place-init : goal.loop-place-init
loop-place-init c =
    record {
      written = sym (append-nil c.args.page.now.text);
      begun = run_first-none (limits_go_on (filled c.args.sheet) c.args.lines.now);
      low = omega arith;
      room = omega arith;
      size = refl;
    }

pub loop-place-preserved-then-limits_go_on : goal.loop-place-preserved-then-limits_go_on
loop-place-preserved-then-limits_go_on c =
    let goes_on : ℕ → Bool = limits_go_on (filled c.args.sheet) c.args.lines.now in
    let on : goes_on c.loop-place.place ≡ true = cc in
    record {
      written = next-none goes_on (λ k. limits_run c.args.sheet c.args.scale c.args.lines.now (run_of goes_on k)) c.loop-place.place _ _ on c.loop-place.invariant.written;
      begun = run_first-on goes_on c.loop-place.place _ on c.loop-place.invariant.begun;
      low = omega (arith, c.loop-place.invariant.low);
      room = omega (arith, c.loop-place.invariant.room);
      size = c.loop-place.invariant.size;
    }

pub loop-place-preserved : goal.loop-place-preserved
loop-place-preserved c =
    let goes_on : ℕ → Bool = limits_go_on (filled c.args.sheet) c.args.lines.now in
    let ends : goes_on c.loop-place.place ≡ false = cc in
    record {
      written =
          next-run goes_on (λ k. limits_run c.args.sheet c.args.scale c.args.lines.now (run_of goes_on k)) c.loop-place.place _ _ _ ends c.loop-place.invariant.written
          (c.write_limits_run.ensures.text ∙ ap (λ first. c.loop-place.page.text ++ limits_run c.args.sheet c.args.scale c.args.lines.now (record { first = first; last = c.loop-place.place })) c.loop-place.invariant.begun);
      begun = run_first-ends goes_on c.loop-place.place ends;
      low = omega arith;
      room = omega (arith, c.loop-place.invariant.room, c.write_limits_run.ensures.room);
      size = c.write_limits_run.ensures.size ∙ c.loop-place.invariant.size;
    }
