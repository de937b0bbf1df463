use Rattle.std.proofs.Common.{◌≡◌, ◌+◌, ◌*◌, ◌≤◌, ◌^◌, false}
use Rattle.std.specs.Io.KnownBytes.{Appends}
use Rattle.journal_chart.specs.Picture.{levels_end, levels_text}
use Rattle.journal_chart.proofs.picture.write_levels.Given as goal

abbrev pub invariant-loop-level : goal.invariant-loop-level
invariant-loop-level g l =
    record {
      written : Appends (g.W.Sink.taken l.fn.sink) (g.W.Sink.taken l.sink) (levels_text l.sheet l.rows l.level);
      working : g.W.Sink.failed l.sink ≡ false;
      height : l.y ≡ levels_end l.rows l.level;
      low : l.y ≤ 120 + l.level * (40 * 2 ^ 32);
      size : l.page.size ≡ l.fn.page.size;
    }
