-- What a moment more does to a chart.
use Rattle.std.specs.Prelude.{if◌then◌else◌}
use Rattle.std.specs.Option.{option_map}
use Rattle.std.proofs.Common.{◌≡◌, ℕ, zero, suc, ◌+◌, ◌*◌, ◌/◌, ◌%◌, ◌<◌, ◌≤◌, Bool, true, false, cond, nat_le, List, [], ◌∷◌, ◌++◌, length, map, replicate, Option, None, Some, refl, sym, ap, ◌∙◌, arith}
use Rattle.std.proofs.lemmas.Bool.Decides.{nat_tests}
use Rattle.std.proofs.lemmas.List.{length_push, length-map, map_push}
use Rattle.std.proofs.lemmas.Nat.{div-add-mod', mod_below, div_below}
use Rattle.std.proofs.Math.Nat.{div-mul-le_self, lt-mul-div-succ, mul-le-mul_right, one-le-mul}
use Rattle.market_types.specs.declared.command.Cmd.{Cmd}
use Rattle.market_types.specs.declared.reply.ArenaView.{ArenaView}
use Rattle.market_types.specs.declared.reply.Reply.{Reply}
use Rattle.market_types.specs.State.{Arena, State}
use Rattle.market_types.specs.Allotment.{limit_of, effective_limit_of}
use Rattle.market_types.specs.Step.{Outcome, arena_at, step}
use Rattle.journal_chart.specs.declared.span.Span.{Span}
use Rattle.journal_chart.specs.Rows.{Row}
use Rattle.journal_chart.specs.Columns.{columns, width_of}
use Rattle.journal_chart.specs.Lines.{added, halved}
use Rattle.journal_chart.specs.Numbers.{level_at, shown, line_of, row_of, Drawn, drawn_of, Charted, chart_of}
use Rattle.journal_chart.specs.Steps.{stands_after, halved_row, passed_row, taken_row, halved_lines, taken_lines, empty_row, empty_lines, roomed_lines, taken_chart, passed_chart}
use Rattle.journal_chart.proofs.Thinned.{added-columns, halved-columns}
use Rattle.journal_chart.proofs.Standing.{stands}

-- ---- widths

-- a column is wide enough for all moments so far
pub record Roomy (most n : ℕ) : Type 0 where
  pub wide : 0 < width_of most n
  pub room : n ≤ most * width_of most n

roomy-if : (most n w : ℕ) (b : Bool) → 0 < most → nat_le (most * w) n ≡ b → 0 < w → n ≤ most * w
    → (0 < (if b then w + w else w)) × (suc n ≤ most * (if b then w + w else w))
roomy-if most n w true some full wide room =
    let more : 1 ≤ most * w = one-le-mul (omega arith) (omega arith) in
    let twice : most * (w + w) ≡ most * w + most * w = omega arith in
    (omega arith, omega arith)
roomy-if most n w false some full wide room =
    let less : n < most * w = grind (arith, nat_tests) in
    (wide, omega arith)

pub roomy : (most n : ℕ) → 0 < most → Roomy most n
roomy most zero some = record { wide = omega arith; room = omega arith }
roomy most (suc n) some =
    let so_far = roomy most n some in
    let more = roomy-if most n (width_of most n) (nat_le (most * width_of most n) n) some refl so_far.wide so_far.room in
    record { wide = more.0; room = more.1 }

pub wide : (most n : ℕ) → 0 < most → 0 < width_of most n
wide most n some = (roomy most n some).wide

pub wide-if : (b : Bool) (w : ℕ) → 0 < w → 0 < (if b then w + w else w)
wide-if true w some = omega arith
wide-if false w some = some

-- the width of the columns once there is a moment more
pub width-more : (most n width width' : ℕ) → width ≡ width_of most n → width' ≡ (if nat_le (most * width) n then width + width else width) → width' ≡ width_of most (n + 1)
width-more most n width width' is wider =
    let next : suc n ≡ n + 1 = omega arith in
    wider ∙ (λ i. if nat_le (most * is i) n then is i + is i else is i) ∙ ap (width_of most) next

-- ---- a line

-- its columns before the next moment: each two made one where all are full
abbrev roomed : Bool → List (Option Span) → List (Option Span)
roomed full cs = cond full (halved cs) cs

roomed-columns : (b : Bool) (most w : ℕ) (vs : List (Option ℕ)) → length vs ≤ most * w → roomed b (columns most w vs) ≡ columns most (if b then w + w else w) vs
roomed-columns true most w vs few = halved-columns most w vs few
roomed-columns false most w vs few = refl

line-more : (most : ℕ) (number : State → Option ℕ) (moments : List State) (t : State) → 0 < most
    → added (length moments / width_of most (suc (length moments))) (number t) (roomed (nat_le (most * width_of most (length moments)) (length moments)) (line_of most number moments))
    ≡ line_of most number (moments ++ t ∷ [])
line-more most number moments t some =
    let n : ℕ = length moments in
    let w : ℕ = width_of most (suc n) in
    let vs : List (Option ℕ) = map number moments in
    let count : length vs ≡ n = length-map moments number in
    let next : suc n ≡ length (moments ++ t ∷ []) = omega (arith, length_push moments t) in
    let now = roomy most n some in
    let then_ = roomy most (suc n) some in
    let few : length vs ≤ most * width_of most n = omega (arith, count, now.room) in
    let whole : n / w * w + n % w ≡ n = div-add-mod' n w in
    let rest : n % w < w = mod_below n w then_.wide in
    let inside : n < most * w = omega (arith, then_.room) in
    ap (added (n / w) (number t)) (roomed-columns (nat_le (most * width_of most n) n) most (width_of most n) vs few)
    ∙ added-columns most w (n / w) vs (number t) (div_below n w most then_.wide inside) (omega (arith, count, whole)) (omega (arith, count, whole, rest))
    ∙ ap (columns most w) (sym (map_push number moments t))
    ∙ ap (λ m. columns most (width_of most m) (map number (moments ++ t ∷ []))) next

pub line-if : (b : Bool) (most : ℕ) (number : State → Option ℕ) (moments : List State) (t : State) → 0 < most
    → nat_le (most * width_of most (length moments)) (length moments) ≡ b
    → added (length moments / width_of most (suc (length moments))) (number t) (roomed b (line_of most number moments)) ≡ line_of most number (moments ++ t ∷ [])
line-if b most number moments t some full =
    ap (λ c. added (length moments / width_of most (suc (length moments))) (number t) (roomed c (line_of most number moments))) (sym full)
    ∙ line-more most number moments t some

-- ---- a row

-- a row whose lines are made ready for a moment, and then have it
abbrev readied : ℕ → State → Option ℕ → Bool → Row → Row
readied place t stands b r =
    record {
      arena = r.arena;
      stands = stands;
      level = added place stands (roomed b r.level);
      request = added place (shown (λ (v : ArenaView). v.request) r.arena t) (roomed b r.request);
      allot = added place (shown (λ (v : ArenaView). v.allot) r.arena t) (roomed b r.allot);
      active = added place (shown (λ (v : ArenaView). v.active) r.arena t) (roomed b r.active);
      recall = added place (shown (λ (v : ArenaView). v.recall) r.arena t) (roomed b r.recall);
      hire = added place (shown (λ (v : ArenaView). v.hire) r.arena t) (roomed b r.hire);
    }

pub readied-row : (b : Bool) (most : ℕ) (moments : List State) (s t : State) (a : ℕ) (stood : Option ℕ) → 0 < most
    → nat_le (most * width_of most (length moments)) (length moments) ≡ b → stood ≡ level_at a t
    → readied (length moments / width_of most (suc (length moments))) t stood b (row_of most moments s a) ≡ row_of most (moments ++ t ∷ []) t a
readied-row b most moments s t a stood some full is =
    let place : ℕ = length moments / width_of most (suc (length moments)) in
    let level = ap (λ l. added place l (roomed b (line_of most (level_at a) moments))) is ∙ line-if b most (level_at a) moments t some full in
    let request = line-if b most (shown (λ (v : ArenaView). v.request) a) moments t some full in
    let allot = line-if b most (shown (λ (v : ArenaView). v.allot) a) moments t some full in
    let active = line-if b most (shown (λ (v : ArenaView). v.active) a) moments t some full in
    let recall = line-if b most (shown (λ (v : ArenaView). v.recall) a) moments t some full in
    let hire = line-if b most (shown (λ (v : ArenaView). v.hire) a) moments t some full in
    λ i. record { arena = a; stands = is i; level = level i; request = request i; allot = allot i; active = active i; recall = recall i; hire = hire i }

-- ---- all lines

rows-whole : (most : ℕ) (moments : List State) (s t : State) (cmd : Cmd) (reply : Reply) → 0 < most
    → nat_le (most * width_of most (length moments)) (length moments) ≡ false
    → ((a : ℕ) → stands_after a (level_at a s) cmd reply ≡ level_at a t) → (arenas : List ℕ)
    → map (taken_row (length moments / width_of most (suc (length moments))) t cmd reply) (map (row_of most moments s) arenas)
    ≡ map (row_of most (moments ++ t ∷ []) t) arenas
rows-whole most moments s t cmd reply some full stood [] = refl
rows-whole most moments s t cmd reply some full stood (a ∷ arenas) =
    let first = readied-row false most moments s t a (stands_after a (level_at a s) cmd reply) some full (stood a) in
    let more = rows-whole most moments s t cmd reply some full stood arenas in
    λ i. first i ∷ more i

rows-halved : (most : ℕ) (moments : List State) (s t : State) (cmd : Cmd) (reply : Reply) → 0 < most
    → nat_le (most * width_of most (length moments)) (length moments) ≡ true
    → ((a : ℕ) → stands_after a (level_at a s) cmd reply ≡ level_at a t) → (arenas : List ℕ)
    → map (taken_row (length moments / width_of most (suc (length moments))) t cmd reply) (map halved_row (map (row_of most moments s) arenas))
    ≡ map (row_of most (moments ++ t ∷ []) t) arenas
rows-halved most moments s t cmd reply some full stood [] = refl
rows-halved most moments s t cmd reply some full stood (a ∷ arenas) =
    let first = readied-row true most moments s t a (stands_after a (level_at a s) cmd reply) some full (stood a) in
    let more = rows-halved most moments s t cmd reply some full stood arenas in
    λ i. first i ∷ more i

lines-if : (b : Bool) (most : ℕ) (arenas : List ℕ) (moments : List State) (s t : State) (cmd : Cmd) (reply : Reply) → 0 < most
    → nat_le (most * width_of most (length moments)) (length moments) ≡ b
    → ((a : ℕ) → stands_after a (level_at a s) cmd reply ≡ level_at a t)
    → taken_lines (length moments / width_of most (suc (length moments))) t cmd reply (cond b (halved_lines (drawn_of most arenas moments s)) (drawn_of most arenas moments s))
    ≡ drawn_of most arenas (moments ++ t ∷ []) t
lines-if true most arenas moments s t cmd reply some full stood =
    let limit = line-if true most (λ s. Some (limit_of s)) moments t some full in
    let effective = line-if true most (λ s. Some (effective_limit_of s)) moments t some full in
    let rows = rows-halved most moments s t cmd reply some full stood arenas in
    λ i. record { limit = limit i; effective = effective i; rows = rows i }
lines-if false most arenas moments s t cmd reply some full stood =
    let limit = line-if false most (λ s. Some (limit_of s)) moments t some full in
    let effective = line-if false most (λ s. Some (effective_limit_of s)) moments t some full in
    let rows = rows-whole most moments s t cmd reply some full stood arenas in
    λ i. record { limit = limit i; effective = effective i; rows = rows i }

-- ---- a chart

abbrev pub charted : ℕ → ℕ → Drawn → Charted
charted most moments lines = record { most = most; moments = moments; lines = lines }

-- where an arena stands after an answered command
pub stood-after : (s t : State) (seat : ℕ) (cmd : Cmd) (reply : Reply) → step s seat cmd ≡ (reply, t) → (a : ℕ) → stands_after a (level_at a s) cmd reply ≡ level_at a t
stood-after s t seat cmd reply answered a =
    sym (ap (λ (o : Outcome). stands_after a (level_at a s) cmd o.0) answered) ∙ sym (stands s seat cmd a) ∙ ap (λ (o : Outcome). level_at a o.1) answered

pub chart-more : (most n width width' place : ℕ) (old mid new : Drawn) (arenas : List ℕ) (moments : List State) (s t : State) (seat : ℕ) (cmd : Cmd) (reply : Reply)
    → 0 < most → width ≡ width_of most n
    → width' ≡ (if nat_le (most * width) n then width + width else width)
    → mid ≡ (if nat_le (most * width) n then halved_lines old else old)
    → place ≡ n / width' → new ≡ taken_lines place t cmd reply mid
    → step s seat cmd ≡ (reply, t) → charted most n old ≡ chart_of most arenas moments s
    → charted most (n + 1) new ≡ chart_of most arenas (moments ++ t ∷ []) t
chart-more most n width width' place old mid new arenas moments s t seat cmd reply some wide wider room where_ taken answered is =
    let count : n ≡ length moments = ap (λ (c : Charted). c.moments) is in
    let were : old ≡ drawn_of most arenas moments s = ap (λ (c : Charted). c.lines) is in
    let so_wide : width ≡ width_of most (length moments) = wide ∙ ap (width_of most) count in
    let next : width' ≡ width_of most (suc (length moments)) = wider ∙ (λ i. if nat_le (most * so_wide i) (count i) then so_wide i + so_wide i else so_wide i) in
    let readied : mid ≡ cond (nat_le (most * width_of most (length moments)) (length moments)) (halved_lines (drawn_of most arenas moments s)) (drawn_of most arenas moments s) =
    room ∙ (λ i. if nat_le (most * so_wide i) (count i) then halved_lines (were i) else were i) in
    let stood : (a : ℕ) → stands_after a (level_at a s) cmd reply ≡ level_at a t = stood-after s t seat cmd reply answered in
    let lines : new ≡ drawn_of most arenas (moments ++ t ∷ []) t =
    taken
    ∙ (λ i. taken_lines (where_ i) t cmd reply (readied i))
    ∙ (λ i. taken_lines (count i / next i) t cmd reply (cond (nat_le (most * width_of most (length moments)) (length moments)) (halved_lines (drawn_of most arenas moments s)) (drawn_of most arenas moments s)))
    ∙ lines-if (nat_le (most * width_of most (length moments)) (length moments)) most arenas moments s t cmd reply some refl stood in
    let more : n + 1 ≡ length (moments ++ t ∷ []) = omega (arith, count, length_push moments t) in
    λ i. charted most (more i) (lines i)

-- the column of the next moment
pub place-more : (most n width width' place : ℕ) → width ≡ width_of most n → width' ≡ (if nat_le (most * width) n then width + width else width)
    → place ≡ n / width' → place ≡ n / width_of most (n + 1)
place-more most n width width' place wide wider where_ = where_ ∙ ap (λ w. n / w) (width-more most n width width' wide wider)

-- the lines that have room for it
pub room-more : (most n width : ℕ) (old mid : Drawn) → width ≡ width_of most n → mid ≡ (if nat_le (most * width) n then halved_lines old else old)
    → mid ≡ roomed_lines (charted most n old)
room-more most n width old mid wide room = room ∙ ap (λ w. if nat_le (most * w) n then halved_lines old else old) wide

-- what the code does to a chart at a moment
pub chart-step : (most n width width' place : ℕ) (old mid new : Drawn) (s : State) (cmd : Cmd) (reply : Reply) → width ≡ width_of most n
    → width' ≡ (if nat_le (most * width) n then width + width else width)
    → mid ≡ (if nat_le (most * width) n then halved_lines old else old)
    → place ≡ n / width' → new ≡ taken_lines place s cmd reply mid → charted most (n + 1) new ≡ taken_chart s cmd reply (charted most n old)
chart-step most n width width' place old mid new s cmd reply wide wider room where_ taken =
    let here = place-more most n width width' place wide wider where_ in
    let roomed_ = room-more most n width old mid wide room in
    let lines : new ≡ taken_lines (n / width_of most (n + 1)) s cmd reply (roomed_lines (charted most n old)) = taken ∙ (λ i. taken_lines (here i) s cmd reply (roomed_ i)) in
    λ i. charted most (n + 1) (lines i)

-- a chart that takes the moment after a call
pub chart-taken : (most : ℕ) (arenas : List ℕ) (moments : List State) (s t : State) (seat : ℕ) (cmd : Cmd) (reply : Reply) → 0 < most → step s seat cmd ≡ (reply, t)
    → taken_chart t cmd reply (chart_of most arenas moments s) ≡ chart_of most arenas (moments ++ t ∷ []) t
chart-taken most arenas moments s t seat cmd reply some answered =
    let n : ℕ = length moments in
    let next : n + 1 ≡ suc n = omega arith in
    let c : Charted = chart_of most arenas moments s in
    chart-more most n (width_of most n) (width_of most (n + 1)) (n / width_of most (n + 1)) (drawn_of most arenas moments s) (roomed_lines c)
    (taken_lines (n / width_of most (n + 1)) t cmd reply (roomed_lines c)) arenas moments s t seat cmd reply some refl (ap (width_of most) next) refl refl refl answered refl

passed-rows : (most : ℕ) (moments : List State) (s t : State) (cmd : Cmd) (reply : Reply) → ((a : ℕ) → stands_after a (level_at a s) cmd reply ≡ level_at a t)
    → (arenas : List ℕ) → map (passed_row cmd reply) (map (row_of most moments s) arenas) ≡ map (row_of most moments t) arenas
passed-rows most moments s t cmd reply stood [] = refl
passed-rows most moments s t cmd reply stood (a ∷ arenas) =
    let more = passed-rows most moments s t cmd reply stood arenas in
    λ i. record (row_of most moments s a) { stands = stood a i } ∷ more i

-- a chart that lets the moment after a call pass
pub chart-passed : (most : ℕ) (arenas : List ℕ) (moments : List State) (s t : State) (seat : ℕ) (cmd : Cmd) (reply : Reply) → step s seat cmd ≡ (reply, t)
    → passed_chart cmd reply (chart_of most arenas moments s) ≡ chart_of most arenas moments t
chart-passed most arenas moments s t seat cmd reply answered =
    let rows = passed-rows most moments s t cmd reply (stood-after s t seat cmd reply answered) arenas in
    λ i. record (chart_of most arenas moments s) { lines = record (drawn_of most arenas moments s) { rows = rows i } }

-- ---- before the first moment

columns-none : (n : ℕ) → columns n 1 [] ≡ replicate n None
columns-none zero = refl
columns-none (suc n) = ap (λ cs. None ∷ cs) (columns-none n)

empty-row : (most : ℕ) (s : State) (a : ℕ) → s.arenas ≡ [] → empty_row most a ≡ row_of most [] s a
empty-row most s a none =
    let line : replicate most None ≡ columns most 1 [] = sym (columns-none most) in
    let nowhere : None ≡ level_at a s = ap (λ arenas. option_map (λ (b : Arena). b.level) (arena_at a arenas)) (sym none) in
    λ i. record { arena = a; stands = nowhere i; level = line i; request = line i; allot = line i; active = line i; recall = line i; hire = line i }

empty-rows : (most : ℕ) (s : State) (arenas : List ℕ) → s.arenas ≡ [] → map (empty_row most) arenas ≡ map (row_of most [] s) arenas
empty-rows most s [] none = refl
empty-rows most s (a ∷ arenas) none = λ i. empty-row most s a none i ∷ empty-rows most s arenas none i

pub chart-empty : (most : ℕ) (s : State) (arenas : List ℕ) → s.arenas ≡ [] → charted most 0 (empty_lines most arenas) ≡ chart_of most arenas [] s
chart-empty most s arenas none =
    let line : replicate most None ≡ columns most 1 [] = sym (columns-none most) in
    let rows = empty-rows most s arenas none in
    λ i. record { most = most; moments = 0; lines = record { limit = line i; effective = line i; rows = rows i } }

-- ---- whether all columns are full

pub not-full : (most w n : ℕ) → 0 < w → n / w < most → nat_le (most * w) n ≡ false
not-full most w n wide_ less =
    let past : n < w * (n / w + 1) = lt-mul-div-succ n wide_ in
    let next : n / w + 1 ≤ most = omega arith in
    let within : (n / w + 1) * w ≤ most * w = mul-le-mul_right w next in
    let few : n < most * w = omega arith in
    grind (arith, nat_tests)

pub full : (most w n : ℕ) → most ≤ n / w → nat_le (most * w) n ≡ true
full most w n more =
    let within : most * w ≤ n / w * w = mul-le-mul_right w more in
    let some : n / w * w ≤ n = div-mul-le_self n w in
    let many : most * w ≤ n = omega arith in
    grind (arith, nat_tests)
