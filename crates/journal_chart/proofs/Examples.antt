-- Charts worked out by hand: each number holds by computation.
use Rattle.std.specs.Prelude.{◌≡◌, ℕ, pos, List, [], ◌∷◌, map, Option, Some, None, refl}
use Rattle.market_types.specs.declared.command.Cmd.{Cmd}
use Rattle.market_types.specs.declared.command.Cmd.TheVariants.{Open, Request, Control as ControlBy, Priority, Join, Stay}
use Rattle.market_types.specs.declared.command.Call.{Call}
use Rattle.market_types.specs.State.{opening}
use Rattle.journal_chart.specs.declared.span.Span.{Span}
use Rattle.journal_chart.specs.Rows.{Row}
use Rattle.journal_chart.specs.Columns.{width_of}
use Rattle.journal_chart.specs.Numbers.{Charted, chart_after}

-- a column's least and most
abbrev span : ℕ → ℕ → Option Span
span least most = Some (record { least = least; most = most })

abbrev call : ℕ → Cmd → Call
call seat cmd = record { seat = seat; cmd = cmd }

-- arena 1 opens at level 2 and asks for 3 workers; two join; the limit falls to 1; arena 2 opens at level 1 and asks for one; a
-- worker is recalled from arena 1; and arena 1 moves to level 1
abbrev nine_calls : List Call
nine_calls =
    call 0 (Open 4 1 2) ∷ call 0 (Request 1 (pos 5) (pos 0)) ∷ call 1 Join ∷ call 2 Join
    ∷ call 0 (ControlBy 2) ∷ call 0 (Open 8 0 1) ∷ call 0 (Request 2 (pos 1) (pos 0)) ∷ call 1 Stay
    ∷ call 0 (Priority 1 1) ∷ []

-- the chart of these arenas after them, in at most so many columns
abbrev drawn : ℕ → List ℕ → Charted
drawn most arenas = chart_after most arenas (opening 8 64 4 3) nine_calls

-- four columns are full after four calls, and again after eight
widths : map (width_of 4) (0 ∷ 1 ∷ 4 ∷ 5 ∷ 8 ∷ 9 ∷ 16 ∷ 17 ∷ []) ≡ 1 ∷ 1 ∷ 1 ∷ 2 ∷ 2 ∷ 4 ∷ 4 ∷ 8 ∷ []
widths = refl

-- four calls in each column: the most of an arena's hires, three, lasted for one moment
in_four_columns :
    drawn 4 (1 ∷ 2 ∷ [])
    ≡ (record {
      most = 4;
      moments = 9;
      lines = record {
        limit = span 7 7 ∷ span 1 1 ∷ span 1 1 ∷ None ∷ [];
        effective = span 7 7 ∷ span 1 1 ∷ span 1 1 ∷ None ∷ [];
        rows = record {
          arena = 1;
          stands = Some 1;
          level = span 2 2 ∷ span 2 2 ∷ span 1 1 ∷ None ∷ [];
          request = span 0 3 ∷ span 3 3 ∷ span 3 3 ∷ None ∷ [];
          allot = span 0 3 ∷ span 0 1 ∷ span 0 0 ∷ None ∷ [];
          active = span 0 2 ∷ span 1 2 ∷ span 1 1 ∷ None ∷ [];
          recall = span 0 0 ∷ span 1 2 ∷ span 1 1 ∷ None ∷ [];
          hire = span 0 3 ∷ span 0 0 ∷ span 0 0 ∷ None ∷ [];
        } ∷ record {
          arena = 2;
          stands = Some 1;
          level = None ∷ span 1 1 ∷ span 1 1 ∷ None ∷ [];
          request = None ∷ span 0 1 ∷ span 1 1 ∷ None ∷ [];
          allot = None ∷ span 0 1 ∷ span 1 1 ∷ None ∷ [];
          active = None ∷ span 0 0 ∷ span 0 0 ∷ None ∷ [];
          recall = None ∷ span 0 0 ∷ span 0 0 ∷ None ∷ [];
          hire = None ∷ span 0 1 ∷ span 1 1 ∷ None ∷ [];
        } ∷ [];
      };
    })
in_four_columns = refl

-- a call in each column
moment_by_moment :
    map (λ (r : Row). r.allot) (drawn 9 (1 ∷ [])).lines.rows
    ≡ (span 0 0 ∷ span 3 3 ∷ span 3 3 ∷ span 3 3 ∷ span 1 1 ∷ span 1 1 ∷ span 0 0 ∷ span 0 0 ∷ span 0 0 ∷ []) ∷ []
moment_by_moment = refl
