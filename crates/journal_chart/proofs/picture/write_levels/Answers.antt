use Rattle.std.proofs.Common.{◌≡◌, ◌+◌, ◌-◌, ◌<◌, ◌++◌, append-nil, refl, sym, subst, ap, ◌∙◌, arith}
use Rattle.std.specs.Io.KnownBytes.{Appends}
use Rattle.std.proofs.KnownBytes.{Appends-nil, Appends-trans}
use Rattle.byte_devices.specs.Devices.{WritesFront}
use Rattle.line_engine.proofs.Taking.{WritesFront-after, WritesFront-longer}
use Rattle.journal_chart.specs.Highest.{highest}
use Rattle.journal_chart.specs.Picture.{levels_text}
use Rattle.journal_chart.proofs.Going.{at-err}
use Rattle.journal_chart.proofs.Texts.{above-end, above-text, levels_end-none, levels_end-more, levels_text-none, levels_text-more, levels_text-rest}
use Rattle.journal_chart.proofs.picture.write_levels.Goals as goal

pub loop-level-init : goal.loop-level-init
loop-level-init g c =
    let taken = g.W.Sink.taken c.args.sink.now in
    record {
      written = subst (λ text. Appends taken taken text) (levels_text-none c.args.sheet c.args.rows.now) (Appends-nil taken);
      working = c.requires.sink_working;
      height = sym (levels_end-none c.args.rows.now);
      low = omega arith;
      size = refl;
    }

pub loop-level-preserved-then-level-top : goal.loop-level-preserved-then-level-top
loop-level-preserved-then-level-top g c =
    let above : highest c.args.rows.now < c.loop-level.level + 1 = omega (arith, c.highest-top.ensures) in
    let text = levels_text c.args.sheet c.args.rows.now c.loop-level.level in
    let same : text ≡ levels_text c.args.sheet c.args.rows.now (c.loop-level.level + 1) =
    sym (append-nil text) ∙ ap (λ t. text ++ t) (sym (above-text c.args.sheet (c.loop-level.level + 1) c.loop-level.y c.args.rows.now above))
    ∙ levels_text-more c.args.sheet c.args.rows.now c.loop-level.level c.loop-level.y c.loop-level.invariant.height in
    record {
      written = subst (λ t. Appends (g.W.Sink.taken c.args.sink.now) (g.W.Sink.taken c.loop-level.sink) t) same c.loop-level.invariant.written;
      working = c.loop-level.invariant.working;
      height =
          sym (above-end (c.loop-level.level + 1) c.loop-level.y c.args.rows.now above)
          ∙ levels_end-more c.args.rows.now c.loop-level.level _ c.loop-level.invariant.height;
      low = omega (arith, c.loop-level.invariant.low);
      size = c.loop-level.invariant.size;
    }

pub returns-in_err-y-clause-prefix : goal.returns-in_err-y-clause-prefix
returns-in_err-y-clause-prefix g c =
    let rest = levels_text-rest c.args.sheet c.args.rows.now (c.loop-level.level + 1) (7 - c.loop-level.level) in
    let whole : c.loop-level.level + 1 + (7 - c.loop-level.level) ≡ 8 = omega arith in
    let front =
    WritesFront-after _ _ _ _ _ c.loop-level.invariant.written c.in_err-y.ensures.prefix in
    at-err _ c.from_residual.result
    (subst (λ text. WritesFront (g.W.Sink.taken c.args.sink.now) (g.W.Sink.taken c.write_rows.new.sink) text)
    (ap (λ t. t ++ rest.0) (levels_text-more c.args.sheet c.args.rows.now c.loop-level.level c.loop-level.y c.loop-level.invariant.height) ∙ sym rest.1
    ∙ ap (λ n. levels_text c.args.sheet c.args.rows.now n) whole)
    (WritesFront-longer _ _ _ rest.0 front))

pub loop-level-preserved : goal.loop-level-preserved
loop-level-preserved g c =
    record {
      written =
          subst (λ t. Appends (g.W.Sink.taken c.args.sink.now) (g.W.Sink.taken c.write_rows.new.sink) t)
          (levels_text-more c.args.sheet c.args.rows.now c.loop-level.level c.loop-level.y c.loop-level.invariant.height)
          (Appends-trans _ _ _ _ _ c.loop-level.invariant.written c.in_ok-y.ensures.written);
      working = c.in_ok-y.ensures.working;
      height = c.in_ok-y.ensures.end ∙ levels_end-more c.args.rows.now c.loop-level.level _ c.loop-level.invariant.height;
      low = omega (arith, c.in_ok-y.ensures.low, c.loop-level.invariant.low);
      size = c.in_ok-y.ensures.size ∙ c.loop-level.invariant.size;
    }
