use Rattle.std.proofs.Common.{◌≡◌, ◌+◌, ◌*◌, ◌≤◌, ◌++◌}
use Rattle.std.specs.List.{flat_map, range_with_len}
use Rattle.journal_chart.specs.Pages.{cell_room}
use Rattle.journal_chart.specs.Picture.{tick_text}
use Rattle.journal_chart.proofs.picture.write_ticks.Given as goal

abbrev pub invariant-loop-place : goal.invariant-loop-place
invariant-loop-place l =
    record {
      written : l.page.text ≡ l.fn.page.text ++ flat_map (tick_text l.sheet l.y) (range_with_len 0 l.place);
      room : l.fn.page.room ≤ l.page.room + cell_room * l.place;
      size : l.page.size ≡ l.fn.page.size;
    }
