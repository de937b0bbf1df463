use Rattle.std.specs.List.{count_by}
use Rattle.std.proofs.Common.{◌≡◌, ◌+◌, ◌*◌, ◌≤◌, false, drop, take}
use Rattle.journal_chart.specs.Picture.{is_at, rows_text}
use Rattle.journal_chart.proofs.Going.{Gone}
use Rattle.journal_chart.proofs.picture.write_rows.Given as goal

abbrev pub invariant-loop-row : goal.invariant-loop-row
invariant-loop-row g l =
    record {
      gone : Gone (g.W.Sink.taken l.fn.sink) (g.W.Sink.taken l.sink) (rows_text l.sheet l.level l.below (drop l.row-index l.rows)) (rows_text l.sheet l.level l.y l.rows);
      working : g.W.Sink.failed l.sink ≡ false;
      height : l.below ≡ l.y + 40 * count_by (is_at l.level) (take l.row-index l.rows);
      low : l.below ≤ l.y + 40 * l.row-index;
      size : l.page.size ≡ l.fn.page.size;
    }
