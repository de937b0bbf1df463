-- Texts that are put one behind the other.
use Rattle.std.proofs.Common.{◌≡◌, ℕ, zero, suc, ◌+◌, ◌<◌, ◌≤◌, ◌/◌, ◌%◌, ◌^◌, decimal, if◌then◌else◌, Bool, true, false, cond, eqb, Option, None, Some, List, [], ◌∷◌, ◌++◌, drop, length, get_or, codes, refl, sym, ap, ◌∙◌, append_assoc, append-nil, arith}
use Rattle.std.specs.List.{count_by, flat_map, list_any, range_with_len}
use Rattle.std.proofs.lemmas.Bool.Decides.{nat_tests}
use Rattle.std.proofs.lemmas.List.Sums.{sum_by-cons}
use Rattle.std.proofs.lemmas.List.{flat_map_more, length-append, map-id, at_drop_more}
use Rattle.std.proofs.Math.Numerals.{suc-eq-add-one}
use Rattle.std.proofs.lemmas.Fmt.{decimal_digit, decimal_step, length-decimal-le}
use Rattle.std.proofs.lemmas.List.FromFn.{map-range_with_len_more}
use Rattle.std.specs.Io.KnownBytes.{Appends}
use Rattle.journal_chart.specs.Rows.{Row}
use Rattle.journal_chart.specs.declared.span.Span.{Span}
use Rattle.journal_chart.specs.Highest.{highest, highest_in, highest_of}
use Rattle.journal_chart.specs.declared.sheet.Sheet.{Sheet}
use Rattle.journal_chart.specs.Columns.{width_of}
use Rattle.journal_chart.specs.Numbers.{Charted, Drawn}
use Rattle.journal_chart.specs.Picture.{axis_text, head_text, is_at, levels_end, levels_text, limits_text, picture_text, row_text, rows_end, rows_text, run_first, sheet_text, stands_at, wide_of}
use Rattle.journal_chart.proofs.Going.{Gone, gone-more, gone-none}

-- texts that are put one behind the other
pub behind : (o a b x y : List ℕ) → a ≡ o ++ x → b ≡ a ++ y → b ≡ o ++ (x ++ y)
behind o a b x y e f = f ∙ ap (λ t. t ++ y) e ∙ append_assoc o x y

pub three : (o a b c u v w : List ℕ) → a ≡ o ++ u → b ≡ a ++ v → c ≡ b ++ w → c ≡ o ++ (u ++ (v ++ w))
three o a b c u v w p q l = behind o a c u _ p (behind a b c v w q l)

pub four : (o a b c d u v w x : List ℕ) → a ≡ o ++ u → b ≡ a ++ v → c ≡ b ++ w → d ≡ c ++ x → d ≡ o ++ (u ++ (v ++ (w ++ x)))
four o a b c d u v w x p q s l = behind o a d u _ p (three a b c d v w x q s l)

pub five : (o a b c d e u v w x y : List ℕ) → a ≡ o ++ u → b ≡ a ++ v → c ≡ b ++ w → d ≡ c ++ x → e ≡ d ++ y → e ≡ o ++ (u ++ (v ++ (w ++ (x ++ y))))
five o a b c d e u v w x y p q s t l = behind o a e u _ p (four a b c d e v w x y q s t l)

-- texts of numbers from 0 on, and one more
pub next-text : (text : ℕ → List ℕ) (n : ℕ) (o a b : List ℕ) → a ≡ o ++ flat_map text (range_with_len 0 n) → b ≡ a ++ text n
    → b ≡ o ++ flat_map text (range_with_len 0 (n + 1))
next-text text n o a b e f =
    let longer : range_with_len 0 (n + 1) ≡ range_with_len 0 n ++ n ∷ [] =
    sym (map-id (range_with_len 0 (n + 1))) ∙ map-range_with_len_more (λ (k : ℕ). k) 0 n n (omega arith) ∙ ap (λ l. l ++ n ∷ []) (map-id (range_with_len 0 n)) in
    f ∙ ap (λ t. t ++ text n) e ∙ flat_map_more text o (range_with_len 0 n) n ∙ ap (λ l. o ++ flat_map text l) (sym longer)

-- a column that goes on with the next puts no text
pub next-none : (goes_on : ℕ → Bool) (run : ℕ → List ℕ) (n : ℕ) (o a : List ℕ) → goes_on n ≡ true
    → a ≡ o ++ flat_map (λ k. if goes_on k then [] else run k) (range_with_len 0 n)
    → a ≡ o ++ flat_map (λ k. if goes_on k then [] else run k) (range_with_len 0 (n + 1))
next-none goes_on run n o a on e =
    next-text (λ k. if goes_on k then [] else run k) n o a a e (sym (append-nil a) ∙ ap (λ (on : Bool). a ++ (if on then [] else run n)) (sym on))

-- one that does not puts the text of those that end there
pub next-run : (goes_on : ℕ → Bool) (run : ℕ → List ℕ) (n : ℕ) (o a b : List ℕ) → goes_on n ≡ false
    → a ≡ o ++ flat_map (λ k. if goes_on k then [] else run k) (range_with_len 0 n) → b ≡ a ++ run n
    → b ≡ o ++ flat_map (λ k. if goes_on k then [] else run k) (range_with_len 0 (n + 1))
next-run goes_on run n o a b ends e f =
    next-text (λ k. if goes_on k then [] else run k) n o a b e (f ∙ ap (λ (on : Bool). a ++ (if on then [] else run n)) (sym ends))

-- ---- columns that are drawn as one

pub run_first-none : (goes_on : ℕ → Bool) → 0 ≡ run_first goes_on 0
unfolding run_first
run_first-none goes_on = refl

pub run_first-on : (goes_on : ℕ → Bool) (n first : ℕ) → goes_on n ≡ true → first ≡ run_first goes_on n → first ≡ run_first goes_on (n + 1)
unfolding run_first
run_first-on goes_on n first on e =
    e ∙ ap (λ (on : Bool). if on then run_first goes_on n else n + 1) (sym on) ∙ ap (λ k. run_first goes_on k) (suc-eq-add-one n)

pub run_first-ends : (goes_on : ℕ → Bool) (n : ℕ) → goes_on n ≡ false → n + 1 ≡ run_first goes_on (n + 1)
unfolding run_first
run_first-ends goes_on n ends =
    ap (λ (on : Bool). if on then run_first goes_on n else n + 1) (sym ends) ∙ ap (λ k. run_first goes_on k) (suc-eq-add-one n)

-- ---- levels, one below the other

pub levels_end-none : (rows : List Row) → levels_end rows 0 ≡ 120
unfolding levels_end
levels_end-none rows = refl

pub levels_end-more : (rows : List Row) (n y : ℕ) → y ≡ levels_end rows n → rows_end (n + 1) y rows ≡ levels_end rows (n + 1)
unfolding levels_end
levels_end-more rows n y e = ap (λ k. rows_end (n + 1) k rows) e ∙ ap (λ k. levels_end rows k) (suc-eq-add-one n)

-- ---- above the highest level

above-in : (level : ℕ) (c : Option Span) → highest_in c < level → stands_at level c ≡ false
above-in level None above = refl
above-in level (Some s) above =
    let least : eqb s.least level ≡ false = grind (arith, nat_tests) in
    let most : eqb s.most level ≡ false = grind (arith, nat_tests) in
    rw (least, most) refl

above-of : (level : ℕ) (cs : List (Option Span)) → highest_of cs < level → list_any (stands_at level) cs ≡ false
above-of level [] above = refl
above-of level (c ∷ cs) above =
    rw (above-in level c (omega (arith, above))) (above-of level cs (omega (arith, above)))

pub above-text : (sheet : Sheet) (level y : ℕ) (rows : List Row) → highest rows < level → rows_text sheet level y rows ≡ []
above-text sheet level y [] above = refl
above-text sheet level y (r ∷ rows) above =
    rw (above-of level r.level (omega (arith, above))) (above-text sheet level y rows (omega (arith, above)))

above-count : (level : ℕ) (rows : List Row) → highest rows < level → count_by (is_at level) rows ≡ 0
above-count level [] above = refl
above-count level (r ∷ rows) above =
    let f : Row → ℕ = λ x. cond (is_at level x) 1 0 in
    let here : f r ≡ 0 = ap (λ (b : Bool). cond b 1 0) (above-of level r.level (omega (arith, above))) in
    omega (arith, sum_by-cons f r rows, here, above-count level rows (omega (arith, above)))

pub above-end : (level y : ℕ) (rows : List Row) → highest rows < level → rows_end level y rows ≡ y
above-end level y rows above = omega (arith, above-count level rows above)

pub levels_text-none : (sheet : Sheet) (rows : List Row) → [] ≡ levels_text sheet rows 0
unfolding levels_text
levels_text-none sheet rows = refl

pub levels_text-more : (sheet : Sheet) (rows : List Row) (n y : ℕ) → y ≡ levels_end rows n
    → levels_text sheet rows n ++ rows_text sheet (n + 1) y rows ≡ levels_text sheet rows (n + 1)
unfolding levels_text
levels_text-more sheet rows n y e =
    ap (λ k. levels_text sheet rows n ++ rows_text sheet (n + 1) k rows) e ∙ ap (λ k. levels_text sheet rows k) (suc-eq-add-one n)

-- the levels from one on are behind those below it
pub levels_text-rest : (sheet : Sheet) (rows : List Row) (n k : ℕ) → (rest : List ℕ) × (levels_text sheet rows (n + k) ≡ levels_text sheet rows n ++ rest)
unfolding levels_text
levels_text-rest sheet rows n zero =
    let same : n + zero ≡ n = omega arith in
    ([], ap (λ m. levels_text sheet rows m) same ∙ sym (append-nil (levels_text sheet rows n)))
levels_text-rest sheet rows n (suc k) =
    let before = levels_text-rest sheet rows n k in
    let more : List ℕ = rows_text sheet (n + k + 1) (levels_end rows (n + k)) rows in
    let next : n + suc k ≡ suc (n + k) = omega arith in (
      before.0 ++ more,
      ap (λ m. levels_text sheet rows m) next ∙ ap (λ t. t ++ more) before.1 ∙ append_assoc (levels_text sheet rows n) before.0 more,
    )

-- ---- rows, one below the other

-- a row that is put
pub row-taken : (sheet : Sheet) (level y : ℕ) (rows : List Row) (i : ℕ) (r : Row) → i < length rows → r ≡ get_or rows i r → is_at level r ≡ true
    → rows_text sheet level y (drop i rows) ≡ row_text sheet level y r ++ rows_text sheet level (y + 40) (drop (i + 1) rows)
row-taken sheet level y rows i r inside is stands =
    let rest : List ℕ = rows_text sheet level (y + 40) (drop (i + 1) rows) in
    let other : List ℕ = rows_text sheet level y (drop (i + 1) rows) in
    at_drop_more (rows_text sheet level y) rows i r inside ∙ ap (λ q. rows_text sheet level y (q ∷ drop (i + 1) rows)) (sym is)
    ∙ ap (λ b. if b then row_text sheet level y r ++ rest else other) stands

-- a row that stands elsewhere
pub row-passed : (sheet : Sheet) (level y : ℕ) (rows : List Row) (i : ℕ) (r : Row) → i < length rows → r ≡ get_or rows i r → is_at level r ≡ false
    → rows_text sheet level y (drop i rows) ≡ rows_text sheet level y (drop (i + 1) rows)
row-passed sheet level y rows i r inside is stands =
    let rest : List ℕ = rows_text sheet level (y + 40) (drop (i + 1) rows) in
    let other : List ℕ = rows_text sheet level y (drop (i + 1) rows) in
    at_drop_more (rows_text sheet level y) rows i r inside ∙ ap (λ q. rows_text sheet level y (q ∷ drop (i + 1) rows)) (sym is)
    ∙ ap (λ b. if b then row_text sheet level y r ++ rest else other) stands

-- ---- the whole picture

-- its three parts, at what the calls before them returned
pub sheet-parts : (sheet : Sheet) (lines : Drawn) (rows : List Row) (wide y : ℕ) → rows ≡ lines.rows → wide ≡ wide_of sheet → y ≡ levels_end rows 8
    → sheet_text sheet lines ≡ (head_text wide (y + 32) ++ limits_text sheet lines) ++ (levels_text sheet rows 8 ++ (axis_text sheet (y + 20) ++ codes "</svg>\n"))
sheet-parts sheet lines rows wide y same broad end =
    let text : ℕ → ℕ → List Row → List ℕ =
    λ w z rs. head_text w (z + 32) ++ (limits_text sheet lines ++ (levels_text sheet rs 8 ++ (axis_text sheet (z + 20) ++ codes "</svg>\n"))) in
    sym (
    append_assoc (head_text wide (y + 32)) (limits_text sheet lines) (levels_text sheet rows 8 ++ (axis_text sheet (y + 20) ++ codes "</svg>\n"))
    ∙ ap (λ w. text w y rows) broad ∙ ap (λ z. text (wide_of sheet) z rows) end ∙ ap (λ rs. text (wide_of sheet) (levels_end rs 8) rs) same)

-- its first part has gone out
pub sheet-begun : (a b : Option (List ℕ)) (sheet : Sheet) (lines : Drawn) (rows : List Row) (wide y : ℕ) (text : List ℕ) → rows ≡ lines.rows → wide ≡ wide_of sheet
    → y ≡ levels_end rows 8 → text ≡ head_text wide (y + 32) ++ limits_text sheet lines → Appends a b text
    → Gone a b (levels_text sheet rows 8 ++ (axis_text sheet (y + 20) ++ codes "</svg>\n")) (sheet_text sheet lines)
sheet-begun a b sheet lines rows wide y text same broad end is h =
    gone-more a a b _ _ _ (sheet_text sheet lines) text (sheet-parts sheet lines rows wide y same broad end) is (gone-none a (sheet_text sheet lines)) h

-- it is that of a chart with these numbers
pub picture-is : (before width moments columns : ℕ) (lines : Drawn) (chart : Charted) → width ≡ width_of chart.most chart.moments → moments ≡ chart.moments
    → columns ≡ chart.most → lines ≡ chart.lines
    → sheet_text (record { before = before; width = width; moments = moments; columns = columns }) lines ≡ picture_text before chart
picture-is before width moments columns lines chart w m k l =
    let sheet : ℕ → ℕ → ℕ → Sheet = λ w m k. record { before = before; width = w; moments = m; columns = k } in
    ap (λ w. sheet_text (sheet w moments columns) lines) w ∙ ap (λ m. sheet_text (sheet (width_of chart.most chart.moments) m columns) lines) m
    ∙ ap (λ k. sheet_text (sheet (width_of chart.most chart.moments) chart.moments k) lines) k
    ∙ ap (λ l. sheet_text (sheet (width_of chart.most chart.moments) chart.moments chart.most) l) l

-- ---- digits

-- the last digit of a number behind the others
pub last-digit : (n : ℕ) (old front bytes : List ℕ) → 10 ≤ n → n < 2 ^ 64 → front ≡ old ++ decimal (n / 10) → bytes ≡ front ++ decimal (n % 10)
    → bytes ≡ old ++ decimal n
last-digit n old front bytes two fits first h =
    let both : decimal n ≡ decimal (n / 10) ++ decimal (n % 10) =
    decimal_step n two (omega (arith, fits)) ∙ ap (λ ones. decimal (n / 10) ++ ones) (sym (decimal_digit (n % 10) (omega arith))) in
    h ∙ ap (λ f. f ++ decimal (n % 10)) first ∙ append_assoc old (decimal (n / 10)) (decimal (n % 10)) ∙ ap (λ d. old ++ d) (sym both)

-- how many digits a number has
pub digits-one : (n : ℕ) → n < 10 → length (decimal n) ≡ 1
digits-one n one = ap length (decimal_digit n one)

pub digits-more : (n : ℕ) → 10 ≤ n → n < 2 ^ 64 → length (decimal n) ≡ length (decimal (n / 10)) + 1
digits-more n two fits = ap length (decimal_step n two fits) ∙ length-append (decimal (n / 10)) _

pub digits-most : (n : ℕ) → n < 2 ^ 64 → length (decimal n) ≤ 20
digits-most n fits = length-decimal-le 20 n (omega arith) (omega (arith, fits)) fits
