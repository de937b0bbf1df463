-- The picture of a chart, as the text of an SVG: a function of the chart's numbers alone (own).
use Rattle.std.specs.Prelude.{ℕ, zero, suc, ◌+◌, ◌-◌, ◌*◌, ◌/◌, ◌%◌, min, max, ◌==◌, ◌&&◌, ◌||◌, nat_lt, if◌then◌else◌, Bool, true, false, List, [], ◌∷◌, ◌++◌, Option, None, Some, codes, decimal}
use Rattle.std.specs.List.{count_by, flat_map, list_any, range_with_len}
use Rattle.journal_chart.specs.declared.span.Span.{Span}
use Rattle.journal_chart.specs.Rows.{Row}
use Rattle.journal_chart.specs.declared.figure.Figure.{Figure}
use Rattle.journal_chart.specs.declared.figure.Bar.{Bar}
use Rattle.journal_chart.specs.declared.figure.Entries.{Entries}
use Rattle.journal_chart.specs.declared.figure.Run.{Run}
use Rattle.journal_chart.specs.declared.sheet.Sheet.{Sheet}
use Rattle.journal_chart.specs.Columns.{width_of}
use Rattle.journal_chart.specs.Lines.{at}
use Rattle.journal_chart.specs.Numbers.{Drawn, Charted}

-- ---- a column of a row

-- a number, or the least and the most of several
abbrev pub range_text : Span → List ℕ
range_text s = if s.least == s.most then decimal s.least else decimal s.least ++ (codes " to " ++ decimal s.most)

-- the entries of columns beside each other
abbrev pub entries_text : Entries → List ℕ
entries_text e = if e.first == e.last then codes "entry " ++ decimal e.first else codes "entries " ++ (decimal e.first ++ (codes " to " ++ decimal e.last))

-- how high a number stands, where the greatest of the row stands at 28
abbrev pub rise_of : ℕ → ℕ → ℕ
rise_of scale number = min 28 (number * 28 / scale)

-- a bar from the least to the most, never thinner than 2
abbrev pub bar_of : ℕ → Span → Bar
bar_of scale s = record { y = 28 - rise_of scale s.most; height = rise_of scale s.most - rise_of scale s.least + 2 }

-- a bar, after what closes the path before it and begins its own; what stands behind it closes its own
abbrev pub bar_text : Bar → List ℕ
bar_text b = decimal b.y ++ (codes "v" ++ decimal b.height)

-- what a row says in a column, where its arena lived
abbrev pub figure_of : Option Span → Option Span → Option Span → Option Span → Option Span → Option Span → Option Figure
figure_of None request allot active recall hire = None
figure_of (Some level) None allot active recall hire = None
figure_of (Some level) (Some request) None active recall hire = None
figure_of (Some level) (Some request) (Some allot) None recall hire = None
figure_of (Some level) (Some request) (Some allot) (Some active) None hire = None
figure_of (Some level) (Some request) (Some allot) (Some active) (Some recall) None = None
figure_of (Some level) (Some request) (Some allot) (Some active) (Some recall) (Some hire) =
    Some (record { level = level; request = request; allot = allot; active = active; recall = recall; hire = hire })

-- what a row says in the column at a place
abbrev pub figure_at : Row → ℕ → Option Figure
figure_at r place = figure_of (at r.level place) (at r.request place) (at r.allot place) (at r.active place) (at r.recall place) (at r.hire place)

-- what a pointer over columns shows, between what begins and what ends that
abbrev pub title_text : Entries → ℕ → Figure → List ℕ
title_text e arena f =
    (entries_text e ++ (codes ": arena " ++ (decimal arena ++ (codes ", level " ++ range_text f.level))))
    ++ (codes ", request " ++ (range_text f.request ++ (codes ", allotment " ++ (range_text f.allot
    ++ (codes ", active " ++ range_text f.active)))))

-- the end of what a pointer shows, and the ground of columns, which is another where the arena moved between levels
abbrev pub ground_text : Span → List ℕ
ground_text level =
    if level.least == level.most then codes "</title><path class=\"h\" d=\"M4 0v36" else codes "</title><path class=\"v\" d=\"M4 0v36"

-- an area from the foot of the row to a number, as a bar
abbrev pub foot_text : ℕ → ℕ → List ℕ
foot_text scale number = bar_text (bar_of scale (record { least = 0; most = number }))

-- the allotment as an area, full to its least, and pale to its most where that is more
abbrev pub area_text : ℕ → Span → List ℕ
area_text scale allot =
    if allot.least == allot.most
    then codes "\"/><path class=\"l\" d=\"M4 " ++ foot_text scale allot.least
    else codes "\"/><path class=\"m\" d=\"M4 " ++ (foot_text scale allot.most ++ (codes "\"/><path class=\"l\" d=\"M4 " ++ foot_text scale allot.least))

-- the request and the active workers
abbrev pub bars_text : ℕ → Span → Span → List ℕ
bars_text scale request active = codes "\"/><path class=\"r\" d=\"M4 " ++ (bar_text (bar_of scale request) ++ (codes "\"/><path class=\"a\" d=\"M4 " ++ bar_text (bar_of scale active)))

-- a mark at this height, where there are some, as a bar behind what begins it
abbrev pub mark_text : List ℕ → ℕ → ℕ → List ℕ
mark_text head y some = if some == 0 then [] else head ++ bar_text (record { y = y; height = min 2 some })

-- marks of recalls and of hires
abbrev pub marks_text : ℕ → ℕ → List ℕ
marks_text recall hire = mark_text (codes "\"/><path class=\"k\" d=\"M4 ") 31 recall ++ mark_text (codes "\"/><path class=\"n\" d=\"M4 ") 34 hire

abbrev pub shapes_text : ℕ → Figure → List ℕ
shapes_text scale f = ground_text f.level ++ (area_text scale f.allot ++ (bars_text scale f.request f.active ++ marks_text f.recall.most f.hire.most))

-- this is the least or the greatest level at which an arena stood in a column
abbrev pub stands_at : ℕ → Option Span → Bool
stands_at level None = false
stands_at level (Some s) = (s.least == level) || (s.most == level)

-- where the columns from one to another stand, each 8 wide, and what ends that
abbrev pub place_text : Run → List ℕ → List ℕ
place_text run end = codes "<g transform=\"matrix(" ++ (decimal (run.last - run.first + 1) ++ (codes " 0 0 1 " ++ (decimal (180 + 8 * run.first) ++ end)))

-- columns of an arena, drawn as one at their place
abbrev pub placed_text : ℕ → ℕ → Entries → Run → Figure → List ℕ
placed_text arena scale e run f = place_text run (codes " 0)\"><title>") ++ (title_text e arena f ++ (shapes_text scale f ++ codes "\"/></g>\n"))

-- columns of an arena at a level, where it is drawn there
abbrev pub cell_text : ℕ → ℕ → ℕ → Entries → Run → Option Figure → List ℕ
cell_text level arena scale e run None = []
cell_text level arena scale e run (Some f) =
    if stands_at level (Some f.level)
    then placed_text arena scale e run f
    else []

-- ---- columns that say the same

-- whether two columns of a line say the same
abbrev pub same_span : Option Span → Option Span → Bool
same_span None None = true
same_span None (Some t) = false
same_span (Some s) None = false
same_span (Some s) (Some t) = (s.least == t.least) && (s.most == t.most)

-- whether a column of a line says what the next says
abbrev pub says_next : List (Option Span) → ℕ → Bool
says_next columns place = same_span (at columns place) (at columns (place + 1))

-- whether a row says in a column what it says in the next
abbrev pub row_says_next : Row → ℕ → Bool
row_says_next r place =
    says_next r.level place
    && (says_next r.request place && (says_next r.allot place && (says_next r.active place && (says_next r.recall place && says_next r.hire place))))

-- whether a column of so many is drawn as one with the next, since a row says the same there
abbrev pub row_goes_on : ℕ → Row → ℕ → Bool
row_goes_on filled r place = nat_lt (place + 1) filled && row_says_next r place

-- the first of the columns that are drawn as one with this one and end there
unfoldable pub run_first : (ℕ → Bool) → ℕ → ℕ
run_first goes_on zero = zero
run_first goes_on (suc place) = if goes_on place then run_first goes_on place else place + 1

-- these columns
abbrev pub run_of : (ℕ → Bool) → ℕ → Run
run_of goes_on place = record { first = run_first goes_on place; last = place }

-- ---- rows

-- the most of a column, or 0
abbrev pub most_of : Option Span → ℕ
most_of None = 0
most_of (Some s) = s.most

-- the greatest number of a line, or 0
abbrev pub greatest : List (Option Span) → ℕ
greatest [] = 0
greatest (column ∷ columns) = max (most_of column) (greatest columns)

-- what stands at the top of a row: the greatest of its numbers, 1 at least
abbrev pub scale_of : Row → ℕ
scale_of r = max 1 (max (greatest r.request) (max (greatest r.allot) (greatest r.active)))

-- how many columns have moments
abbrev pub filled : Sheet → ℕ
filled sheet = min sheet.columns (if sheet.moments == 0 then 0 else (sheet.moments - 1) / sheet.width + 1)

-- the first entry of a column
abbrev pub first_entry : Sheet → ℕ → ℕ
first_entry sheet place = sheet.before + place * sheet.width + 1

-- the last entry of a column
abbrev pub last_entry : Sheet → ℕ → ℕ
last_entry sheet place = sheet.before + place * sheet.width + min sheet.width (sheet.moments - place * sheet.width)

-- the entries of the columns from one to another
abbrev pub entries_of : Sheet → Run → Entries
entries_of sheet run = record { first = first_entry sheet run.first; last = last_entry sheet run.last }

-- the columns of a row at a level from one to another, in which it says the same
abbrev pub run_text : Sheet → ℕ → ℕ → Row → Run → List ℕ
run_text sheet level scale r run = cell_text level r.arena scale (entries_of sheet run) run (figure_at r run.last)

-- the columns of a row at a level that end at a place
abbrev pub column_text : Sheet → ℕ → ℕ → Row → ℕ → List ℕ
column_text sheet level scale r place =
    if row_goes_on (filled sheet) r place then [] else run_text sheet level scale r (run_of (row_goes_on (filled sheet) r) place)

-- the columns of a row at a level
abbrev pub columns_text : Sheet → ℕ → ℕ → Row → List ℕ
columns_text sheet level scale r = flat_map (column_text sheet level scale r) (range_with_len 0 (filled sheet))

-- a row's name, and what stands at its top
abbrev pub name_text : ℕ → ℕ → ℕ → Row → List ℕ
name_text level scale y r =
    (codes "<g transform=\"translate(0 " ++ (decimal y ++ (codes ")\"><text x=\"8\" y=\"24\">level " ++ decimal level)))
    ++ (codes ", arena " ++ (decimal r.arena ++ (codes "</text><text x=\"172\" y=\"10\" class=\"e\">" ++ (decimal scale ++ codes "</text>\n"))))

-- a row at a level
abbrev pub row_text : Sheet → ℕ → ℕ → Row → List ℕ
row_text sheet level y r = name_text level (scale_of r) y r ++ (columns_text sheet level (scale_of r) r ++ codes "</g>\n")

-- this is the least or the greatest level of one of the columns
abbrev pub is_at : ℕ → Row → Bool
is_at level r = list_any (stands_at level) r.level

-- the rows at a level from this height on, one below the other
abbrev pub rows_text : Sheet → ℕ → ℕ → List Row → List ℕ
rows_text sheet level y [] = []
rows_text sheet level y (r ∷ rows) =
    if is_at level r then row_text sheet level y r ++ rows_text sheet level (y + 40) rows else rows_text sheet level y rows

-- where the rows at a level end
abbrev pub rows_end : ℕ → ℕ → List Row → ℕ
rows_end level y rows = y + 40 * count_by (is_at level) rows

-- where the rows of the first levels end
unfoldable pub levels_end : List Row → ℕ → ℕ
levels_end rows zero = 120
levels_end rows (suc n) = rows_end (n + 1) (levels_end rows n) rows

-- the rows of the first levels, one level below the other
unfoldable pub levels_text : Sheet → List Row → ℕ → List ℕ
levels_text sheet rows zero = []
levels_text sheet rows (suc n) = levels_text sheet rows n ++ rows_text sheet (n + 1) (levels_end rows n) rows

-- ---- the limits, above the rows

-- what a pointer over a column of the limits shows, and the ground
abbrev pub limits_title : Entries → Span → Span → List ℕ
limits_title e limit effective =
    (entries_text e ++ (codes ": limit " ++ range_text limit)) ++ (codes ", effective limit " ++ (range_text effective ++ codes "</title><path class=\"h\" d=\"M4 0v36"))

-- columns of the limits, drawn as one at their place
abbrev pub placed_limits : ℕ → Entries → Run → Span → Span → List ℕ
placed_limits scale e run limit effective =
    place_text run (codes " 60)\"><title>") ++ (limits_title e limit effective ++ (bars_text scale limit effective ++ codes "\"/></g>\n"))

-- columns of the limits, where they have moments
abbrev pub limits_cell : ℕ → Entries → Run → Option Span → Option Span → List ℕ
limits_cell scale e run None effective = []
limits_cell scale e run (Some limit) None = []
limits_cell scale e run (Some limit) (Some effective) =
    placed_limits scale e run limit effective

-- whether a column of so many is drawn as one with the next, since the limits are the same there
abbrev pub limits_go_on : ℕ → Drawn → ℕ → Bool
limits_go_on filled d place = nat_lt (place + 1) filled && (says_next d.limit place && says_next d.effective place)

-- what stands at the top of the limits: the greatest of them, 1 at least
abbrev pub limits_scale : Drawn → ℕ
limits_scale d = max 1 (max (greatest d.limit) (greatest d.effective))

-- the columns of the limits from one to another, in which they are the same
abbrev pub limits_run : Sheet → ℕ → Drawn → Run → List ℕ
limits_run sheet scale d run = limits_cell scale (entries_of sheet run) run (at d.limit run.last) (at d.effective run.last)

-- the columns of the limits that end at a place
abbrev pub limits_column : Sheet → ℕ → Drawn → ℕ → List ℕ
limits_column sheet scale d place =
    if limits_go_on (filled sheet) d place then [] else limits_run sheet scale d (run_of (limits_go_on (filled sheet) d) place)

-- all columns of the limits
abbrev pub limits_columns : Sheet → ℕ → Drawn → List ℕ
limits_columns sheet scale d = flat_map (limits_column sheet scale d) (range_with_len 0 (filled sheet))

-- the name of the limits, and what stands at their top
abbrev pub limits_name : ℕ → List ℕ
limits_name scale = codes "<text x=\"8\" y=\"84\">limit</text><text x=\"172\" y=\"70\" class=\"e\">" ++ (decimal scale ++ codes "</text>\n")

-- the limits
abbrev pub limits_text : Sheet → Drawn → List ℕ
limits_text sheet d = limits_name (limits_scale d) ++ limits_columns sheet (limits_scale d) d

-- ---- the entries, below the rows

-- the first entry of every sixteenth column
abbrev pub tick_text : Sheet → ℕ → ℕ → List ℕ
tick_text sheet y place =
    if place % 16 == 0
    then codes "<text x=\"" ++ (decimal (180 + 8 * place) ++ (codes "\" y=\"" ++ (decimal y ++ (codes "\">" ++ (decimal (first_entry sheet place) ++ codes "</text>\n")))))
    else []

-- the first entries of all columns that tell it
abbrev pub ticks_text : Sheet → ℕ → List ℕ
ticks_text sheet y = flat_map (tick_text sheet y) (range_with_len 0 (filled sheet))

-- the name of the entries
abbrev pub axis_name : ℕ → List ℕ
axis_name y = codes "<text x=\"8\" y=\"" ++ (decimal y ++ codes "\">entry</text>\n")

-- the entries
abbrev pub axis_text : Sheet → ℕ → List ℕ
axis_text sheet y = axis_name y ++ ticks_text sheet y

-- ---- the picture

-- the columns of a chart, before whose moments so many entries came
abbrev pub sheet_of : ℕ → Charted → Sheet
sheet_of before c = record { before = before; width = width_of c.most c.moments; moments = c.moments; columns = c.most }

-- how wide and how high the picture is
abbrev pub size_text : ℕ → ℕ → List ℕ
size_text wide high = codes "<svg xmlns=\"http://www.w3.org/2000/svg\" width=\"" ++ (decimal wide ++ (codes "\" height=\"" ++ (decimal high ++ codes "\"")))

-- the box that is seen, which is all of the picture
abbrev pub box_text : ℕ → ℕ → List ℕ
box_text wide high = codes " viewBox=\"0 0 " ++ (decimal wide ++ (codes " " ++ (decimal high ++ codes "\">\n")))

-- the colours of the classes, on light pages and on dark ones
unfoldable pub style_text : List ℕ
style_text =
    codes "<style>svg{background:#fff;font:12px sans-serif}text{fill:#222}.e{text-anchor:end}rect{fill:currentColor}"
    ++ (codes "path{stroke:currentColor;stroke-width:8}.h{color:transparent}.r{color:#222}.v{color:#f6d58f}.m{color:#bfe1f5}"
    ++ (codes ".l{color:#56b4e9}.a{color:#d55e00}.k{color:#cc79a7}.n{color:#009e73}@media(prefers-color-scheme:dark){"
    ++ (codes "svg{background:#111}text{fill:#ddd}.r{color:#ddd}.v{color:#6b4e10}.m{color:#173f57}.l{color:#2a7fb8}.a{color:#ff9d5c}}</style>\n")))

-- what the classes stand for
unfoldable pub legend_text : List ℕ
legend_text =
    codes "<text x=\"8\" y=\"20\">A market's history</text>"
    ++ (codes "<rect class=\"r\" x=\"150\" y=\"14\" width=\"14\" height=\"2\"/>"
    ++ (codes "<text x=\"168\" y=\"20\">request, limit</text>"
    ++ (codes "<rect class=\"m\" x=\"270\" y=\"9\" width=\"7\" height=\"12\"/>"
    ++ (codes "<rect class=\"l\" x=\"277\" y=\"9\" width=\"7\" height=\"12\"/>"
    ++ (codes "<text x=\"288\" y=\"20\">allotment, its most and its least</text>"
    ++ (codes "<rect class=\"a\" x=\"500\" y=\"14\" width=\"14\" height=\"2\"/>"
    ++ (codes "<text x=\"518\" y=\"20\">active, effective limit</text>"
    ++ (codes "<rect class=\"k\" x=\"150\" y=\"36\" width=\"14\" height=\"2\"/>"
    ++ (codes "<text x=\"168\" y=\"42\">recalls</text>"
    ++ (codes "<rect class=\"n\" x=\"270\" y=\"36\" width=\"14\" height=\"2\"/>"
    ++ (codes "<text x=\"288\" y=\"42\">hires</text>"
    ++ (codes "<rect class=\"v\" x=\"500\" y=\"31\" width=\"14\" height=\"12\"/>"
    ++ (codes "<text x=\"518\" y=\"42\">moved between levels</text>\n")))))))))))))

-- the size, the colours of the classes, and the legend
abbrev pub head_text : ℕ → ℕ → List ℕ
head_text wide high = size_text wide high ++ (box_text wide high ++ (style_text ++ legend_text))

-- how wide the picture is: room for the names, for the columns and for the legend
abbrev pub wide_of : Sheet → ℕ
wide_of sheet = max 660 (256 + 8 * sheet.columns)

-- the picture of some columns and lines, one part below the other
abbrev pub sheet_text : Sheet → Drawn → List ℕ
sheet_text sheet d =
    head_text (wide_of sheet) (levels_end d.rows 8 + 32)
    ++ (limits_text sheet d ++ (levels_text sheet d.rows 8 ++ (axis_text sheet (levels_end d.rows 8 + 20) ++ codes "</svg>\n")))

-- the picture of a chart, before whose moments so many entries came
abbrev pub picture_text : ℕ → Charted → List ℕ
picture_text before c = sheet_text (sheet_of before c) c.lines
