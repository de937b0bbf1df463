-- The numbers of a chart: what each line says in each column (own).
use Rattle.std.specs.Prelude.{ℕ, ◌-◌, List, [], ◌∷◌, length, map, take, drop, Option, Some}
use Rattle.std.specs.Option.{option_map}
use Rattle.market_types.specs.declared.command.Call.{Call}
use Rattle.market_types.specs.declared.reply.ArenaView.{ArenaView}
use Rattle.market_types.specs.State.{Arena, State}
use Rattle.market_types.specs.Allotment.{limit_of, effective_limit_of}
use Rattle.market_types.specs.Step.{arena_at, view_of, step}
use Rattle.market_types.specs.History.{state_after}
use Rattle.journal_chart.specs.declared.span.Span.{Span}
use Rattle.journal_chart.specs.Rows.{Row}
use Rattle.journal_chart.specs.Columns.{columns, width_of}

-- ---- at a moment

-- the level of an arena while it lives
abbrev pub level_at : ℕ → State → Option ℕ
level_at a s = option_map (λ (b : Arena). b.level) (arena_at a s.arenas)

-- what a Show tells of it
abbrev pub view_at : ℕ → State → Option ArenaView
view_at a s = option_map (view_of s) (arena_at a s.arenas)

-- a number of what a Show tells
abbrev pub shown : (ArenaView → ℕ) → ℕ → State → Option ℕ
shown number a s = option_map number (view_at a s)

-- ---- over moments

-- what a line says, in at most so many columns, where this is its number at a moment
abbrev pub line_of : ℕ → (State → Option ℕ) → List State → List (Option Span)
line_of most number moments = columns most (width_of most (length moments)) (map number moments)

-- the lines of an arena, and the level at which it stands in the market now
abbrev pub row_of : ℕ → List State → State → ℕ → Row
row_of most moments now a =
    record {
      arena = a;
      stands = level_at a now;
      level = line_of most (level_at a) moments;
      request = line_of most (shown (λ (v : ArenaView). v.request) a) moments;
      allot = line_of most (shown (λ (v : ArenaView). v.allot) a) moments;
      active = line_of most (shown (λ (v : ArenaView). v.active) a) moments;
      recall = line_of most (shown (λ (v : ArenaView). v.recall) a) moments;
      hire = line_of most (shown (λ (v : ArenaView). v.hire) a) moments;
    }

-- the lines of the whole market, and a row for each arena that is drawn
pub record Drawn : Type 0 where
  pub limit : List (Option Span)
  pub effective : List (Option Span)
  pub rows : List Row

abbrev pub drawn_of : ℕ → List ℕ → List State → State → Drawn
drawn_of most arenas moments now =
    record {
      limit = line_of most (λ s. Some (limit_of s)) moments;
      effective = line_of most (λ s. Some (effective_limit_of s)) moments;
      rows = map (row_of most moments now) arenas;
    }

-- what contracts see of a chart: at most how many columns it has, how many moments are drawn, and the lines
pub record Charted : Type 0 where
  pub most : ℕ
  pub moments : ℕ
  pub lines : Drawn

-- the chart of these arenas at these moments, of a market that is now so
abbrev pub chart_of : ℕ → List ℕ → List State → State → Charted
chart_of most arenas moments now = record { most = most; moments = length moments; lines = drawn_of most arenas moments now }

-- ---- a history

-- the market after each of these calls
abbrev pub moments_of : State → List Call → List State
moments_of s [] = []
moments_of s (c ∷ calls) = (step s c.seat c.cmd).1 ∷ moments_of (step s c.seat c.cmd).1 calls

-- the chart of these arenas over calls from this opening
abbrev pub chart_after : ℕ → List ℕ → State → List Call → Charted
chart_after most arenas start calls = chart_of most arenas (moments_of start calls) (state_after start calls)

-- the chart of these arenas over the calls from one on to another, which are counted from 1
abbrev pub chart_between : ℕ → List ℕ → ℕ → ℕ → State → List Call → Charted
chart_between most arenas from to start calls =
    chart_of most arenas (drop (from - 1) (moments_of start (take to calls))) (state_after start (take to calls))
