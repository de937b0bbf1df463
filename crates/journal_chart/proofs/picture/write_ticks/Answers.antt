use Rattle.std.proofs.Common.{◌∙◌, arith}
use Rattle.journal_chart.specs.Picture.{tick_text}
use Rattle.journal_chart.proofs.Texts.{next-text}
use Rattle.journal_chart.proofs.picture.write_ticks.Goals as goal

pub loop-place-preserved : goal.loop-place-preserved
loop-place-preserved c =
    record {
      written = next-text (tick_text c.args.sheet c.args.y) c.loop-place.place _ _ _ c.loop-place.invariant.written c.write_tick.ensures.text;
      room = omega (arith, c.loop-place.invariant.room, c.write_tick.ensures.room);
      size = c.write_tick.ensures.size ∙ c.loop-place.invariant.size;
    }
