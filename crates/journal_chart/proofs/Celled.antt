-- A row is its cells: what is done to a cell, and what is then done to each line.
use Rattle.std.proofs.Common.{◌≡◌, ℕ, zero, suc, ◌+◌, List, [], ◌∷◌, length, map, replicate, set, get_or, Option, None, Some, refl, sym, ap, ◌∙◌}
use Rattle.std.specs.Prelude.{◌&&◌, ◌||◌, Bool}
use Rattle.std.specs.List.{list_any, range_with_len}
use Rattle.std.proofs.Math.ListN.{get_or-map}
use Rattle.std.proofs.Math.Seq.{map-set_same}
use Rattle.std.proofs.lemmas.List.{length-map, map-set}
use Rattle.std.proofs.lemmas.Simd.{map-map}
use Rattle.journal_chart.specs.declared.cell.Cell.{Cell}
use Rattle.journal_chart.specs.declared.span.Span.{Span}
use Rattle.journal_chart.specs.Cells.{actives_of, allots_of, halved_cells, hires_of, joined_cells, levels_of, no_cell, recalls_of, requests_of, row_of_cells, same_cells, with_active, with_level, with_numbers, with_request}
use Rattle.journal_chart.specs.Columns.{alone, joined}
use Rattle.journal_chart.specs.Lines.{added, at, halved}
use Rattle.journal_chart.specs.Picture.{row_says_next, same_span, says_next}
use Rattle.journal_chart.specs.Rows.{Row}
use Rattle.journal_chart.specs.Steps.{empty_row, halved_row, standing_row}

-- ---- a line of cells

-- what it says in a column is what the cell there says
pub line-at : (line : Cell → Option Span) (cells : List Cell) (place : ℕ) → line no_cell ≡ None → at (map line cells) place ≡ line (get_or cells place no_cell)
line-at line cells place none = ap (get_or (map line cells) place) (sym none) ∙ get_or-map line cells place no_cell

-- a cell that has a number more
pub line-more : (line : Cell → Option Span) (cells : List Cell) (place : ℕ) (c : Cell) (number : Option ℕ) → line no_cell ≡ None
    → line c ≡ joined (line (get_or cells place no_cell)) (alone number) → map line (set cells place c) ≡ added place number (map line cells)
line-more line cells place c number none more =
    map-set line cells place c
    ∙ ap (set (map line cells) place) (more ∙ ap (λ a. joined a (alone number)) (sym (line-at line cells place none)))

-- a cell that says the same of it
pub line-same : (line : Cell → Option Span) (cells : List Cell) (place : ℕ) (c : Cell) → line c ≡ line (get_or cells place no_cell) → map line (set cells place c) ≡ map line cells
line-same line cells place c same = map-set_same line cells place c no_cell same

-- each two cells made one
line-halved : (line : Cell → Option Span) (cells : List Cell) → line no_cell ≡ None → ((a b : Cell) → line (joined_cells a b) ≡ joined (line a) (line b))
    → map line (halved_cells cells) ≡ halved (map line cells)
line-halved line cells none both =
    map-map line (λ place. joined_cells (get_or cells (place + place) no_cell) (get_or cells (place + place + 1) no_cell)) (range_with_len 0 (length cells))
    ∙ (λ i. map (λ place. each place i) (range_with_len 0 (sym (length-map cells line) i)))
  where
    each : (place : ℕ) → line (joined_cells (get_or cells (place + place) no_cell) (get_or cells (place + place + 1) no_cell)) ≡ joined (at (map line cells) (place + place)) (at (map line cells) (place + place + 1))
    each place =
        both (get_or cells (place + place) no_cell) (get_or cells (place + place + 1) no_cell)
        ∙ (λ i. joined (sym (line-at line cells (place + place) none) i) (sym (line-at line cells (place + place + 1) none) i))

-- a test of one of its columns
pub any-line : (test : Option Span → Bool) (line : Cell → Option Span) (cells : List Cell) → list_any test (map line cells) ≡ list_any (λ (c : Cell). test (line c)) cells
any-line test line [] = refl
any-line test line (c ∷ cells) = ap (λ (any : Bool). test (line c) || any) (any-line test line cells)

-- ---- a row

-- it says in a column what it says in the next, where its cells do
pub cells-say : (r : Row) (cells : List Cell) (place : ℕ) → levels_of cells ≡ r.level → requests_of cells ≡ r.request → allots_of cells ≡ r.allot → actives_of cells ≡ r.active
    → recalls_of cells ≡ r.recall → hires_of cells ≡ r.hire → same_cells (get_or cells place no_cell) (get_or cells (place + 1) no_cell) ≡ row_says_next r place
cells-say r cells place level request allot active recall hire =
    let said : (line : Cell → Option Span) (columns : List (Option Span)) → line no_cell ≡ None → map line cells ≡ columns → same_span (line (get_or cells place no_cell)) (line (get_or cells (place + 1) no_cell)) ≡ says_next columns place =
    λ line columns none is. (λ i. same_span (sym (line-at line cells place none) i) (sym (line-at line cells (place + 1) none) i)) ∙ ap (λ (l : List (Option Span)). says_next l place) is in
    λ i. said (λ c. c.level) r.level refl level i
    && (said (λ c. c.request) r.request refl request i
    && (said (λ c. c.allot) r.allot refl allot i
    && (said (λ c. c.active) r.active refl active i
    && (said (λ c. c.recall) r.recall refl recall i && said (λ c. c.hire) r.hire refl hire i))))

pub row-halved : (arena : ℕ) (stands : Option ℕ) (cells : List Cell) → row_of_cells arena stands (halved_cells cells) ≡ halved_row (row_of_cells arena stands cells)
row-halved arena stands cells =
    λ i. record {
      arena = arena;
      stands = stands;
      level = line-halved (λ c. c.level) cells refl (λ a b. refl) i;
      request = line-halved (λ c. c.request) cells refl (λ a b. refl) i;
      allot = line-halved (λ c. c.allot) cells refl (λ a b. refl) i;
      active = line-halved (λ c. c.active) cells refl (λ a b. refl) i;
      recall = line-halved (λ c. c.recall) cells refl (λ a b. refl) i;
      hire = line-halved (λ c. c.hire) cells refl (λ a b. refl) i;
    }

map-replicate : (line : Cell → Option Span) (n : ℕ) (c : Cell) → map line (replicate n c) ≡ replicate n (line c)
map-replicate line zero c = refl
map-replicate line (suc n) c = ap (λ lines. line c ∷ lines) (map-replicate line n c)

-- before all moments
pub row-empty : (columns arena : ℕ) → row_of_cells arena None (replicate columns no_cell) ≡ empty_row columns arena
row-empty columns arena =
    λ i. record {
      arena = arena;
      stands = None;
      level = map-replicate (λ (c : Cell). c.level) columns no_cell i;
      request = map-replicate (λ (c : Cell). c.request) columns no_cell i;
      allot = map-replicate (λ (c : Cell). c.allot) columns no_cell i;
      active = map-replicate (λ (c : Cell). c.active) columns no_cell i;
      recall = map-replicate (λ (c : Cell). c.recall) columns no_cell i;
      hire = map-replicate (λ (c : Cell). c.hire) columns no_cell i;
    }

-- the level more at which the arena stands
pub level-more : (arena : ℕ) (stands : Option ℕ) (cells : List Cell) (place : ℕ)
    → row_of_cells arena stands (set cells place (with_level stands (get_or cells place no_cell))) ≡ standing_row place (row_of_cells arena stands cells)
level-more arena stands cells place =
    let c : Cell = with_level stands (get_or cells place no_cell) in
    λ i. record {
      arena = arena;
      stands = stands;
      level = line-more (λ c. c.level) cells place c stands refl refl i;
      request = line-same (λ c. c.request) cells place c refl i;
      allot = line-same (λ c. c.allot) cells place c refl i;
      active = line-same (λ c. c.active) cells place c refl i;
      recall = line-same (λ c. c.recall) cells place c refl i;
      hire = line-same (λ c. c.hire) cells place c refl i;
    }

-- a number more of each other line
abbrev pub more_numbers : ℕ → ℕ → ℕ → ℕ → ℕ → ℕ → Row → Row
more_numbers place request allot active recall hire r =
    record r {
      request = added place (Some request) r.request;
      allot = added place (Some allot) r.allot;
      active = added place (Some active) r.active;
      recall = added place (Some recall) r.recall;
      hire = added place (Some hire) r.hire;
    }

pub numbers-more : (arena : ℕ) (stands : Option ℕ) (cells : List Cell) (place request allot active recall hire : ℕ)
    → row_of_cells arena stands (set cells place (with_numbers request allot active recall hire (get_or cells place no_cell)))
    ≡ more_numbers place request allot active recall hire (row_of_cells arena stands cells)
numbers-more arena stands cells place request allot active recall hire =
    let c : Cell = with_numbers request allot active recall hire (get_or cells place no_cell) in
    λ i. record {
      arena = arena;
      stands = stands;
      level = line-same (λ c. c.level) cells place c refl i;
      request = line-more (λ c. c.request) cells place c (Some request) refl refl i;
      allot = line-more (λ c. c.allot) cells place c (Some allot) refl refl i;
      active = line-more (λ c. c.active) cells place c (Some active) refl refl i;
      recall = line-more (λ c. c.recall) cells place c (Some recall) refl refl i;
      hire = line-more (λ c. c.hire) cells place c (Some hire) refl refl i;
    }

-- both
pub all-more : (arena : ℕ) (stands : Option ℕ) (cells : List Cell) (place request allot active recall hire : ℕ)
    → row_of_cells arena stands (set cells place (with_numbers request allot active recall hire (with_level stands (get_or cells place no_cell))))
    ≡ more_numbers place request allot active recall hire (standing_row place (row_of_cells arena stands cells))
all-more arena stands cells place request allot active recall hire =
    let c : Cell = with_numbers request allot active recall hire (with_level stands (get_or cells place no_cell)) in
    λ i. record {
      arena = arena;
      stands = stands;
      level = line-more (λ c. c.level) cells place c stands refl refl i;
      request = line-more (λ c. c.request) cells place c (Some request) refl refl i;
      allot = line-more (λ c. c.allot) cells place c (Some allot) refl refl i;
      active = line-more (λ c. c.active) cells place c (Some active) refl refl i;
      recall = line-more (λ c. c.recall) cells place c (Some recall) refl refl i;
      hire = line-more (λ c. c.hire) cells place c (Some hire) refl refl i;
    }

-- a number more of what the arena asks for
pub request-more : (arena : ℕ) (stands : Option ℕ) (cells : List Cell) (place number : ℕ)
    → row_of_cells arena stands (set cells place (with_request number (get_or cells place no_cell)))
    ≡ record (row_of_cells arena stands cells) { request = added place (Some number) (requests_of cells) }
request-more arena stands cells place number =
    let c : Cell = with_request number (get_or cells place no_cell) in
    λ i. record {
      arena = arena;
      stands = stands;
      level = line-same (λ c. c.level) cells place c refl i;
      request = line-more (λ c. c.request) cells place c (Some number) refl refl i;
      allot = line-same (λ c. c.allot) cells place c refl i;
      active = line-same (λ c. c.active) cells place c refl i;
      recall = line-same (λ c. c.recall) cells place c refl i;
      hire = line-same (λ c. c.hire) cells place c refl i;
    }

-- and of what it has
pub active-more : (arena : ℕ) (stands : Option ℕ) (cells : List Cell) (place number : ℕ)
    → row_of_cells arena stands (set cells place (with_active number (get_or cells place no_cell)))
    ≡ record (row_of_cells arena stands cells) { active = added place (Some number) (actives_of cells) }
active-more arena stands cells place number =
    let c : Cell = with_active number (get_or cells place no_cell) in
    λ i. record {
      arena = arena;
      stands = stands;
      level = line-same (λ c. c.level) cells place c refl i;
      request = line-same (λ c. c.request) cells place c refl i;
      allot = line-same (λ c. c.allot) cells place c refl i;
      active = line-more (λ c. c.active) cells place c (Some number) refl refl i;
      recall = line-same (λ c. c.recall) cells place c refl i;
      hire = line-same (λ c. c.hire) cells place c refl i;
    }
