-- The cells that a row is kept in. Private functions alone cite these words, but for what each line says.
use Rattle.std.specs.Prelude.{ℕ, ◌&&◌, Bool, List, map, Option, None, Some}
use Rattle.journal_chart.specs.declared.cell.Cell.{Cell}
use Rattle.journal_chart.specs.declared.span.Span.{Span}
use Rattle.journal_chart.specs.Columns.{alone, joined}
use Rattle.journal_chart.specs.Lines.{halved_with}
use Rattle.journal_chart.specs.Picture.{same_span}
use Rattle.journal_chart.specs.Rows.{Row}

-- ---- a cell

-- no numbers
abbrev pub no_cell : Cell
no_cell = record { level = None; request = None; allot = None; active = None; recall = None; hire = None }

-- the numbers of both
abbrev pub joined_cells : Cell → Cell → Cell
joined_cells a b =
    record {
      level = joined a.level b.level;
      request = joined a.request b.request;
      allot = joined a.allot b.allot;
      active = joined a.active b.active;
      recall = joined a.recall b.recall;
      hire = joined a.hire b.hire;
    }

-- both say the same
abbrev pub same_cells : Cell → Cell → Bool
same_cells a b =
    same_span a.level b.level
    && (same_span a.request b.request && (same_span a.allot b.allot && (same_span a.active b.active && (same_span a.recall b.recall && same_span a.hire b.hire))))

-- the number of a level more, if there is one
abbrev pub with_level : Option ℕ → Cell → Cell
with_level number c = record c { level = joined c.level (alone number) }

-- a number more of each other line
abbrev pub with_numbers : ℕ → ℕ → ℕ → ℕ → ℕ → Cell → Cell
with_numbers request allot active recall hire c =
    record c {
      request = joined c.request (alone (Some request));
      allot = joined c.allot (alone (Some allot));
      active = joined c.active (alone (Some active));
      recall = joined c.recall (alone (Some recall));
      hire = joined c.hire (alone (Some hire));
    }

-- a number more of what an arena asks for, and of what it has
abbrev pub with_request : ℕ → Cell → Cell
with_request number c = record c { request = joined c.request (alone (Some number)) }

abbrev pub with_active : ℕ → Cell → Cell
with_active number c = record c { active = joined c.active (alone (Some number)) }

-- ---- cells, one for each column

-- each two made one
abbrev pub halved_cells : List Cell → List Cell
halved_cells cells = halved_with joined_cells no_cell cells

-- each of their lines
abbrev pub levels_of : List Cell → List (Option Span)
levels_of cells = map (λ (c : Cell). c.level) cells

abbrev pub requests_of : List Cell → List (Option Span)
requests_of cells = map (λ (c : Cell). c.request) cells

abbrev pub allots_of : List Cell → List (Option Span)
allots_of cells = map (λ (c : Cell). c.allot) cells

abbrev pub actives_of : List Cell → List (Option Span)
actives_of cells = map (λ (c : Cell). c.active) cells

abbrev pub recalls_of : List Cell → List (Option Span)
recalls_of cells = map (λ (c : Cell). c.recall) cells

abbrev pub hires_of : List Cell → List (Option Span)
hires_of cells = map (λ (c : Cell). c.hire) cells

-- the row of an arena that has these, and stands there
abbrev pub row_of_cells : ℕ → Option ℕ → List Cell → Row
row_of_cells arena stands cells =
    record {
      arena = arena;
      stands = stands;
      level = levels_of cells;
      request = requests_of cells;
      allot = allots_of cells;
      active = actives_of cells;
      recall = recalls_of cells;
      hire = hires_of cells;
    }
