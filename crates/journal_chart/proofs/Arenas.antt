-- The rows of a chart keep their arenas, whatever moments it takes.
use Rattle.std.specs.Prelude.{◌==◌, IfSome, nat_le}
use Rattle.std.specs.Option.{option_map}
use Rattle.std.specs.List.{range_with_len}
use Rattle.std.proofs.Common.{◌≡◌, ℕ, ◌+◌, ◌*◌, ◌/◌, Bool, true, false, cond, List, [], ◌∷◌, length, map, Option, None, Some, refl, sym, ap, ◌∙◌}
use Rattle.std.proofs.lemmas.List.{length-map}
use Rattle.market_types.specs.declared.command.Cmd.{Cmd}
use Rattle.market_types.specs.declared.reply.Reply.{Reply}
use Rattle.market_types.specs.State.{State}
use Rattle.market_types.specs.Allotment.{is_just}
use Rattle.journal_chart.specs.declared.row.Known.{Known}
use Rattle.journal_chart.specs.Rows.{Row}
use Rattle.journal_chart.specs.Columns.{width_of}
use Rattle.journal_chart.specs.Numbers.{Charted, Drawn, chart_of, row_of}
use Rattle.journal_chart.specs.Numbering.{AreNumbered, arenas_of}
use Rattle.journal_chart.specs.Shares.{Shared, shared_of}
use Rattle.journal_chart.specs.Spots.{no_spot}
use Rattle.journal_chart.specs.Steps.{Followed, after_seat, begun_chart, closed_row, counted_chart, each_row, first_chart, first_row, goes_on, halved_lines, halved_row, has_share, is_covered_at, is_joined, is_spared_at, is_still, kept_levels, moves_seat, near_chart, near_row, near_rows, needing_row, next_chart, own_row, pairwise, passed_row, respotted, retold, roomed_lines, seat_row, seat_rows, seated, seen_row, settled_at, settled_row, share_of, shared_after, spot_of, spotted, stands_kept, subject, taken_row, told_row}

-- ---- a row

kept-arena : (b : Bool) (x y : Row × Known) (a : ℕ) → x.0.arena ≡ a → y.0.arena ≡ a → (cond b x y).0.arena ≡ a
kept-arena true x y a h k = h
kept-arena false x y a h k = k

told-arena : (place : ℕ) (s : State) (cmd : Cmd) (reply : Reply) (k : Known) (r : Row) (o : Option ℕ) → (told_row place s cmd reply k r o).0.arena ≡ r.arena
told-arena place s cmd reply k r None = refl
told-arena place s cmd reply k r (Some allot) = refl

closed-arena : (place : ℕ) (s : State) (cmd : Cmd) (reply : Reply) (k : Known) (r other : Row) (o : Option ℕ) → other.arena ≡ r.arena
    → (closed_row place s cmd reply k r other o).0.arena ≡ r.arena
closed-arena place s cmd reply k r other None is = refl
closed-arena place s cmd reply k r other (Some allot) is =
    kept-arena (has_share k allot) (other, k) (told_row place s cmd reply k r (Some allot)) r.arena is refl

own-arena : (place : ℕ) (s : State) (cmd : Cmd) (reply : Reply) (now : Shared) (was : Known) (r : Row) (o : Option Known) → (own_row place s cmd reply now was r o).0.arena ≡ r.arena
own-arena place s cmd reply now was r None = refl
own-arena place s cmd reply now was r (Some k) =
    let share : Option ℕ = option_map (share_of s now k r.arena) r.stands in
    kept-arena (is_covered_at now k r.stands) (needing_row place was k r, k) (closed_row place s cmd reply k r (needing_row place was k r) share) r.arena refl
    (closed-arena place s cmd reply k r (needing_row place was k r) share refl)

near-arena : (place : ℕ) (s : State) (cmd : Cmd) (reply : Reply) (now : Shared) (kept : List Bool) (r : Row) (k : Known) → (near_row place s cmd reply now kept r k).0.arena ≡ r.arena
near-arena place s cmd reply now kept r k =
    let share : Option ℕ = option_map (share_of s now k r.arena) r.stands in
    let closed : Row × Known = closed_row place s cmd reply k r r share in
    let asked : Row × Known = respotted (spot_of s now k r.arena r.stands) closed in
    let near : Row × Known = cond (is_spared_at now k r.stands) (r, k) asked in
    let open_ : Row × Known = cond (is_covered_at now k r.stands) (r, k) near in
    kept-arena (is_just r.arena (subject cmd reply)) (spotted no_spot (own_row place s cmd reply now k r (retold cmd reply k))) (cond (stands_kept kept r.stands) (r, k) open_) r.arena
    (own-arena place s cmd reply now k r (retold cmd reply k))
    (kept-arena (stands_kept kept r.stands) (r, k) open_ r.arena refl
    (kept-arena (is_covered_at now k r.stands) (r, k) near r.arena refl (kept-arena (is_spared_at now k r.stands) (r, k) asked r.arena refl (closed-arena place s cmd reply k r r share refl))))

seat-arena : (place : ℕ) (s : State) (cmd : Cmd) (reply : Reply) (more : Bool) (now : Shared) (r : Row) (k : Known) → (seat_row place s cmd reply more now r k).0.arena ≡ r.arena
seat-arena place s cmd reply more now r k =
    kept-arena (is_just r.arena (subject cmd reply)) (spotted no_spot (own_row place s cmd reply now k r (seated place more reply k r))) (r, k) r.arena
    (own-arena place s cmd reply now k r (seated place more reply k r)) refl

settled-arena : (place : ℕ) (s : State) (cmd : Cmd) (reply : Reply) (now : Shared) (k : Known) (r : Row) (o : Option ℕ) → (settled_at place s cmd reply now k r o).0.arena ≡ r.arena
settled-arena place s cmd reply now k r None = refl
settled-arena place s cmd reply now k r (Some level) = refl

first-arena : (place : ℕ) (s : State) (cmd : Cmd) (reply : Reply) (now : Shared) (r : Row) (k : Known) → (first_row place s cmd reply now r k).0.arena ≡ r.arena
first-arena place s cmd reply now r k =
    kept-arena (is_just r.arena (subject cmd reply)) (seen_row place s cmd reply r) (settled_row place s cmd reply now k r) r.arena refl
    (settled-arena place s cmd reply now k r r.stands)

-- ---- all rows

map-arenas : (f : Row → Row) → ((r : Row) → (f r).arena ≡ r.arena) → (rows : List Row) → arenas_of (map f rows) ≡ arenas_of rows
map-arenas f is [] = refl
map-arenas f is (r ∷ rows) = λ i. is r i ∷ map-arenas f is rows i

pair-arenas : (f : Row → Known → Row × Known) → ((r : Row) (k : Known) → (f r k).0.arena ≡ r.arena) → (rows : List Row) (ks : List Known)
    → arenas_of (pairwise f rows ks).0 ≡ arenas_of rows
pair-arenas f is [] ks = refl
pair-arenas f is (r ∷ rows) [] = refl
pair-arenas f is (r ∷ rows) (k ∷ ks) = λ i. is r k i ∷ pair-arenas f is rows ks i

roomed-arenas : (b : Bool) (d : Drawn) → arenas_of (cond b (halved_lines d) d).rows ≡ arenas_of d.rows
roomed-arenas true d = map-arenas halved_row (λ r. refl) d.rows
roomed-arenas false d = refl

near-arenas : (place : ℕ) (s : State) (cmd : Cmd) (reply : Reply) (was : Shared) (rows : List Row) (ks : List Known)
    → arenas_of (near_rows place s cmd reply was rows ks).0 ≡ arenas_of rows
near-arenas place s cmd reply was rows ks = go (moves_seat cmd)
  where
    go : (b : Bool) → arenas_of (cond b (seat_rows place s cmd reply was rows ks) (each_row place s cmd reply was rows ks)).0 ≡ arenas_of rows
    go true =
        let more = is_joined was (after_seat s was) in
        pair-arenas (seat_row place s cmd reply more (after_seat s was)) (seat-arena place s cmd reply more (after_seat s was)) rows ks
    go false =
        let kept = kept_levels cmd was (shared_of s) s.levels in
        let now = shared_after cmd was s in
        pair-arenas (near_row place s cmd reply now kept) (near-arena place s cmd reply now kept) rows ks

pub passed-arenas : (cmd : Cmd) (reply : Reply) (rows : List Row) → arenas_of (map (passed_row cmd reply) rows) ≡ arenas_of rows
passed-arenas cmd reply rows = map-arenas (passed_row cmd reply) (λ r. refl) rows

pub next-arenas : (s : State) (cmd : Cmd) (reply : Reply) (f : Followed) → arenas_of (next_chart s cmd reply f).chart.lines.rows ≡ arenas_of f.chart.lines.rows
next-arenas s cmd reply f = go (goes_on f.chart) (is_still reply) (f.chart.moments == 0)
  where
    next : Bool → Bool → Bool → Followed
    next on still none = cond on (cond still (record f { chart = counted_chart f.chart }) (near_chart s cmd reply f)) (cond none (first_chart s cmd reply f.chart) (begun_chart s cmd reply f))

    roomed : arenas_of (roomed_lines f.chart).rows ≡ arenas_of f.chart.lines.rows
    roomed = roomed-arenas (nat_le (f.chart.most * width_of f.chart.most f.chart.moments) f.chart.moments) f.chart.lines

    go : (on still none : Bool) → arenas_of (next on still none).chart.lines.rows ≡ arenas_of f.chart.lines.rows
    go false still true = map-arenas (taken_row (f.chart.moments / width_of f.chart.most (f.chart.moments + 1)) s cmd reply) (λ r. refl) (roomed_lines f.chart).rows ∙ roomed
    go false still false =
        pair-arenas (first_row (f.chart.moments / width_of f.chart.most (f.chart.moments + 1)) s cmd reply (shared_of s))
        (first-arena (f.chart.moments / width_of f.chart.most (f.chart.moments + 1)) s cmd reply (shared_of s)) (roomed_lines f.chart).rows f.known
        ∙ roomed
    go true true none = refl
    go true false none = near-arenas (f.chart.moments / width_of f.chart.most (f.chart.moments + 1)) s cmd reply f.shares f.chart.lines.rows f.known

-- rows of the same arenas are numbered as these
pub numbered-still : (first : Option ℕ) (old new : List Row) → arenas_of new ≡ arenas_of old → AreNumbered first old → AreNumbered first new
numbered-still None old new is h = tt
numbered-still (Some n) old new is h =
    let same : length old ≡ length new = sym (length-map old _) ∙ ap length (sym is) ∙ length-map new _ in
    is ∙ h ∙ ap (range_with_len n) same

-- rows of arenas that are numbered
named-arenas : (f : ℕ → Row) → ((a : ℕ) → (f a).arena ≡ a) → (arenas : List ℕ) → arenas_of (map f arenas) ≡ arenas
named-arenas f is [] = refl
named-arenas f is (a ∷ arenas) = λ i. is a i ∷ named-arenas f is arenas i

numbered-rows : (first : Option ℕ) (arenas : List ℕ) (rows : List Row) → arenas_of rows ≡ arenas → IfSome first (λ n. arenas ≡ range_with_len n (length arenas)) → AreNumbered first rows
numbered-rows None arenas rows is h = tt
numbered-rows (Some n) arenas rows is h = is ∙ h ∙ ap (range_with_len n) (sym (ap length is) ∙ length-map rows _)

pub numbered-chart : (first : Option ℕ) (most : ℕ) (arenas : List ℕ) (s : State) (c : Charted) → c ≡ chart_of most arenas [] s
    → IfSome first (λ n. arenas ≡ range_with_len n (length arenas)) → AreNumbered first c.lines.rows
numbered-chart first most arenas s c is h =
    numbered-rows first arenas c.lines.rows (ap (λ (d : Charted). arenas_of d.lines.rows) is ∙ named-arenas (row_of most [] s) (λ a. refl) arenas) h
