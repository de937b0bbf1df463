use Rattle.std.proofs.Common.{◌≡◌, ◌+◌, ◌*◌, ◌≤◌, ◌++◌}
use Rattle.std.specs.List.{flat_map, range_with_len}
use Rattle.journal_chart.specs.Pages.{cell_room}
use Rattle.journal_chart.specs.Picture.{column_text, filled, row_goes_on, run_first}
use Rattle.journal_chart.proofs.picture.write_columns.Given as goal

abbrev pub invariant-loop-place : goal.invariant-loop-place
invariant-loop-place l =
    record {
      written : l.page.text ≡ l.fn.page.text ++ flat_map (column_text l.sheet l.level l.scale l.row) (range_with_len 0 l.place);
      begun : l.first ≡ run_first (row_goes_on (filled l.sheet) l.row) l.place;
      low : l.first ≤ l.place;
      room : l.fn.page.room ≤ l.page.room + cell_room * l.place;
      size : l.page.size ≡ l.fn.page.size;
    }
