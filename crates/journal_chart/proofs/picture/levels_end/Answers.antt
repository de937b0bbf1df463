use Rattle.std.proofs.Common.{◌+◌, sym, ◌∙◌, arith}
use Rattle.journal_chart.proofs.Texts.{above-end, levels_end-none, levels_end-more}
use Rattle.journal_chart.proofs.picture.levels_end.Goals as goal

pub loop-level-init : goal.loop-level-init
loop-level-init c = record { exact = sym (levels_end-none c.args.rows.now); low = omega arith }

pub loop-level-preserved-then-level-top : goal.loop-level-preserved-then-level-top
loop-level-preserved-then-level-top c =
    record {
      exact =
          sym (above-end (c.loop-level.level + 1) c.loop-level.y c.args.rows.now (omega (arith, c.highest-top.ensures)))
          ∙ levels_end-more c.args.rows.now c.loop-level.level _ c.loop-level.invariant.exact;
      low = omega (arith, c.loop-level.invariant.low);
    }

pub loop-level-preserved : goal.loop-level-preserved
loop-level-preserved c =
    record {
      exact = c.rows_end-y.ensures.exact ∙ levels_end-more c.args.rows.now c.loop-level.level _ c.loop-level.invariant.exact;
      low = omega (arith, c.rows_end-y.ensures.low, c.loop-level.invariant.low);
    }
