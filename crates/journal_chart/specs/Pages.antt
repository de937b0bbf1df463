-- The page that a part of a picture is written on, and how much of it the parts take at most. Private functions alone cite these words.
use Rattle.std.specs.Prelude.{ℕ, ◌+◌, ◌*◌, List}
use Rattle.journal_chart.specs.declared.sheet.Sheet.{Sheet}
use Rattle.journal_chart.specs.Picture.{filled}

-- what is written on a page, for how many bytes more it has room, and how many it has when it is empty
pub record Paged : Type 0 where
  pub text : List ℕ
  pub room : ℕ
  pub size : ℕ

-- columns of a row, or of the limits, drawn as one
abbrev pub cell_room : ℕ
cell_room = 832

-- all columns of a row, or of the limits
abbrev pub cells_room : Sheet → ℕ
cells_room sheet = cell_room * filled sheet

-- any part, a row being one
abbrev pub part_room : Sheet → ℕ
part_room sheet = cells_room sheet + 2048
