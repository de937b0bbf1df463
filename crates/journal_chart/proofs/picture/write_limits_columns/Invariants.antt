use Rattle.std.proofs.Common.{◌≡◌, ◌+◌, ◌*◌, ◌≤◌, ◌++◌}
use Rattle.std.specs.List.{flat_map, range_with_len}
use Rattle.journal_chart.specs.Pages.{cell_room}
use Rattle.journal_chart.specs.Picture.{filled, limits_column, limits_go_on, run_first}
use Rattle.journal_chart.proofs.picture.write_limits_columns.Given as goal

abbrev pub invariant-loop-place : goal.invariant-loop-place
invariant-loop-place l =
    record {
      written : l.page.text ≡ l.fn.page.text ++ flat_map (limits_column l.sheet l.scale l.lines) (range_with_len 0 l.place);
      begun : l.first ≡ run_first (limits_go_on (filled l.sheet) l.lines) l.place;
      low : l.first ≤ l.place;
      room : l.fn.page.room ≤ l.page.room + cell_room * l.place;
      size : l.page.size ≡ l.fn.page.size;
    }
