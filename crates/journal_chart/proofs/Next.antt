-- A moment more of a chart, of which it has taken the one before.
use Rattle.std.specs.Prelude.{◌==◌, nat_lt, nat_le}
use Rattle.std.proofs.Common.{◌≡◌, ℕ, suc, ◌+◌, ◌*◌, ◌/◌, ◌%◌, ◌<◌, ◌⊎◌, Bool, true, false, true≢false, cond, List, [], ◌∷◌, ◌++◌, length, map, Some, refl, sym, ap, ◌∙◌, subst, arith, inl, inr}
use Rattle.std.proofs.lemmas.Bool.{cases_Bool}
use Rattle.std.proofs.lemmas.Bool.Decides.{nat_tests}
use Rattle.std.proofs.lemmas.List.{length-map, length_push, map-id}
use Rattle.market_types.specs.declared.command.Cmd.{Cmd}
use Rattle.market_types.specs.declared.reply.Reply.{Reply}
use Rattle.market_types.specs.State.{State}
use Rattle.market_types.specs.Allotment.{limit_of, effective_limit_of, is_just}
use Rattle.market_types.specs.Step.{step}
use Rattle.journal_chart.specs.declared.row.Known.{Known}
use Rattle.journal_chart.specs.Rows.{Row}
use Rattle.journal_chart.specs.Columns.{width_of}
use Rattle.journal_chart.specs.Lines.{added}
use Rattle.journal_chart.specs.Numbers.{Charted, Drawn, chart_of, drawn_of, level_at, line_of, row_of, view_at}
use Rattle.std.specs.Bool.{⊤}
use Rattle.journal_chart.specs.Shares.{Shared, all_asked, shared_at, shared_of}
use Rattle.journal_chart.specs.Steps.{Followed, after_seat, drifted, begun_chart, counted_chart, each_row, first_chart, first_row, first_rows, goes_on, halved_lines, halved_row, is_joined, is_still, kept_levels, known_of, known_rows, changed, moves_seat, near_chart, near_lines, near_row, near_rows, next_chart, now_shared, pairwise, roomed_lines, seat_row, seat_rows, seen_row, shared_after, stands_after, subject, taken_row}
use Rattle.journal_chart.proofs.Bounds.{Whole}
use Rattle.journal_chart.proofs.Charts.{chart-taken, readied-row, stood-after}
use Rattle.journal_chart.proofs.Drifts.{spot-seat, spot-step}
use Rattle.journal_chart.proofs.First.{first-row, first-spot}
use Rattle.journal_chart.proofs.Spared.{spot-none}
use Rattle.journal_chart.proofs.Spots.{IsSpot, bare, bared, known-bare, known-unspotted}
use Rattle.journal_chart.proofs.Kept.{Fine}
use Rattle.journal_chart.proofs.Near.{even-step, limited-next, near-row, seat-row}
use Rattle.journal_chart.proofs.Placing.{near-spot, seat-spot}
use Rattle.journal_chart.proofs.Still.{GoesOn, chart-still, goes-on, row-still, stays-so}

-- the column of the last of some moments more than so many
abbrev pub place_of : ℕ → ℕ → ℕ
place_of most n = n / width_of most (suc n)

-- what is known of arenas at the last of these moments
abbrev pub known_at : ℕ → List State → State → List ℕ → List Known
known_at most before s arenas = map (λ a. known_of (place_of most (length before)) (view_at a s) (row_of most (before ++ s ∷ []) s a)) arenas

-- an arena is known as it is, but for its spot, and that is right
pub record IsKnown (place drift : ℕ) (s : State) (r : Row) (a : ℕ) (k : Known) : Type 0 where
  pub is : bare k ≡ known_of place (view_at a s) r
  pub spot : IsSpot s a drift k

-- so are all
abbrev pub AreKnown : ℕ → ℕ → State → (ℕ → Row) → List ℕ → List Known → Type 0
AreKnown place drift s row [] [] = ⊤
AreKnown place drift s row [] (k ∷ ks) = ⊥
AreKnown place drift s row (a ∷ arenas) [] = ⊥
AreKnown place drift s row (a ∷ arenas) (k ∷ ks) = IsKnown place drift s (row a) a k × AreKnown place drift s row arenas ks

-- what is known of arenas, and what their levels are given, is of the last of these moments
pub record IsHeld (most : ℕ) (before : List State) (s : State) (arenas : List ℕ) (ks : List Known) (given : Shared) : Type 0 where
  pub drift : ℕ
  pub known : AreKnown (place_of most (length before)) drift s (row_of most (before ++ s ∷ []) s) arenas ks
  pub shares : given ≡ shared_at s drift

-- no moment was taken, or the last of them is of the market as it is, and what is known and given is of it too
abbrev pub Knows : ℕ → State → List ℕ → List State → List Known → Shared → Type 0
Knows most s arenas moments ks given = (moments ≡ []) ⊎ ((before : List State) × ((moments ≡ before ++ s ∷ []) × IsHeld most before s arenas ks given))

-- a chart with the moment of the market as it is, and what is kept for the next
pub record IsFollowed (most : ℕ) (arenas : List ℕ) (moments : List State) (s : State) (f : Followed) : Type 0 where
  pub chart : f.chart ≡ chart_of most arenas (moments ++ s ∷ []) s
  pub held : IsHeld most moments s arenas f.known f.shares

-- a chart with the moment of the market as it is, what is known of its arenas, and what its levels are given
abbrev pub followed_chart : ℕ → List ℕ → List State → State → Followed
followed_chart most arenas moments s =
    record { chart = chart_of most arenas (moments ++ s ∷ []) s; known = known_at most moments s arenas; shares = shared_of s }

-- where no spot is known
known-are : (place : ℕ) (s : State) (row : ℕ → Row) (arenas : List ℕ) → AreKnown place 0 s row arenas (map (λ a. known_of place (view_at a s) (row a)) arenas)
known-are place s row [] = tt
known-are place s row (a ∷ arenas) = (
  record { is = known-bare place (view_at a s) (row a); spot = spot-none s a 0 (known_of place (view_at a s) (row a)) (known-unspotted place (view_at a s) (row a)) },
  known-are place s row arenas,
)

followed-is : (most : ℕ) (arenas : List ℕ) (moments : List State) (s : State) (f : Followed) → f ≡ followed_chart most arenas moments s → IsFollowed most arenas moments s f
followed-is most arenas moments s f is =
    subst (IsFollowed most arenas moments s) (sym is)
    (record {
      chart = refl;
      held = record { drift = 0; known = known-are (place_of most (length moments)) s (row_of most (moments ++ s ∷ []) s) arenas; shares = refl };
    })

-- what is known is what it is without a spot, and its spot
spot-back : (place drift : ℕ) (s : State) (r : Row) (a : ℕ) (k : Known) → IsKnown place drift s r a k → k ≡ record (known_of place (view_at a s) r) { spot = k.spot }
spot-back place drift s r a k h = ap (λ (b : Known). record b { spot = k.spot }) h.is

-- ---- the first moment of all, and of a column

module _ (most : ℕ) (moments : List State) (s t : State) (seat : ℕ) (cmd : Cmd) (reply : Reply) (some : 0 < most) (answered : step s seat cmd ≡ (reply, t)) where
  abbrev column : ℕ
  column = length moments / width_of most (suc (length moments))

  first-known : (a : ℕ) (r : Row) → taken_row column t cmd reply r ≡ row_of most (moments ++ t ∷ []) t a → r.arena ≡ a
      → (seen_row column t cmd reply r).1 ≡ known_of column (view_at a t) (row_of most (moments ++ t ∷ []) t a)
  first-known a r taken number = λ i. known_of column (view_at (number i) t) (taken i)

  rows-whole : nat_le (most * width_of most (length moments)) (length moments) ≡ false → (arenas : List ℕ)
      → known_rows column t cmd reply (map (row_of most moments s) arenas) ≡ known_at most moments t arenas
  rows-whole full [] = refl
  rows-whole full (a ∷ arenas) =
      let taken = readied-row false most moments s t a (stands_after a (level_at a s) cmd reply) some full (stood-after s t seat cmd reply answered a) in
      let first = first-known a (row_of most moments s a) taken refl in
      let more = rows-whole full arenas in
      λ i. first i ∷ more i

  rows-halved : nat_le (most * width_of most (length moments)) (length moments) ≡ true → (arenas : List ℕ)
      → known_rows column t cmd reply (map halved_row (map (row_of most moments s) arenas)) ≡ known_at most moments t arenas
  rows-halved full [] = refl
  rows-halved full (a ∷ arenas) =
      let taken = readied-row true most moments s t a (stands_after a (level_at a s) cmd reply) some full (stood-after s t seat cmd reply answered a) in
      let first = first-known a (halved_row (row_of most moments s a)) taken refl in
      let more = rows-halved full arenas in
      λ i. first i ∷ more i

  rows-roomed : (b : Bool) → nat_le (most * width_of most (length moments)) (length moments) ≡ b → (arenas : List ℕ)
      → known_rows column t cmd reply (cond b (halved_lines (drawn_of most arenas moments s)) (drawn_of most arenas moments s)).rows ≡ known_at most moments t arenas
  rows-roomed true full arenas = rows-halved full arenas
  rows-roomed false full arenas = rows-whole full arenas

  chart-first : (arenas : List ℕ) → first_chart t cmd reply (chart_of most arenas moments s) ≡ followed_chart most arenas moments t
  chart-first arenas =
      let next : length moments + 1 ≡ suc (length moments) = omega arith in
      let where_ : length moments / width_of most (length moments + 1) ≡ column = ap (λ k. length moments / width_of most k) next in
      let chart = chart-taken most arenas moments s t seat cmd reply some answered in
      let known =
      ap (λ p. known_rows p t cmd reply (roomed_lines (chart_of most arenas moments s)).rows) where_
      ∙ rows-roomed (nat_le (most * width_of most (length moments)) (length moments)) refl arenas in
      λ i. record { chart = chart i; known = known i; shares = shared_of t }

-- ---- the first moment of a column after another

module _ (whole : Whole) (most : ℕ) (before : List State) (s t : State) (seat : ℕ) (cmd : Cmd) (reply : Reply) (answered : step s seat cmd ≡ (reply, t)) (fine' : Fine t) (place : ℕ) where
  abbrev past : List State
  past = before ++ s ∷ []

  -- a row, whole or halved, with what was known of its arena
  module _ (f : Row → Row) (arena_is : (a : ℕ) → (f (row_of most past s a)).arena ≡ a) (stands_is : (a : ℕ) → (f (row_of most past s a)).stands ≡ level_at a s) (drift : ℕ) where
    begun-rows : (arenas : List ℕ) (ks : List Known) → AreKnown (place_of most (length before)) drift s (row_of most past s) arenas ks
        → ((first_rows place t cmd reply (map f (map (row_of most past s) arenas)) ks).0 ≡ map (taken_row place t cmd reply) (map f (map (row_of most past s) arenas)))
        × AreKnown place 0 t (λ a. taken_row place t cmd reply (f (row_of most past s a))) arenas (first_rows place t cmd reply (map f (map (row_of most past s) arenas)) ks).1
    begun-rows [] [] h = (refl, tt)
    begun-rows [] (k ∷ ks) h = absurd h
    begun-rows (a ∷ arenas) [] h = absurd h
    begun-rows (a ∷ arenas) (k ∷ ks) h =
        let r : Row = f (row_of most past s a) in
        let was : k ≡ record (known_of (place_of most (length before)) (view_at a s) (row_of most past s a)) { spot = k.spot } =
        spot-back (place_of most (length before)) drift s (row_of most past s a) a k h.0 in
        let first =
        first-row whole place s t seat cmd reply answered fine' a (stood-after s t seat cmd reply answered a) r (arena_is a) (stands_is a)
        (place_of most (length before)) (row_of most past s a) k.spot in
        let spot =
        first-spot whole place s t seat cmd reply answered fine' a (stood-after s t seat cmd reply answered a) r (arena_is a) (stands_is a)
        (place_of most (length before)) (row_of most past s a) k.spot in
        let made : bared (first_row place t cmd reply (shared_of t) r k) ≡ seen_row place t cmd reply r = ap (λ (l : Known). bared (first_row place t cmd reply (shared_of t) r l)) was ∙ first in
        let more = begun-rows arenas ks h.1 in (
          λ i. (made i).0 ∷ more.0 i,
          (
            record {
              is = ap (λ (p : Row × Known). p.1) made ∙ (λ i. known_of place (view_at (arena_is a i) t) (taken_row place t cmd reply r));
              spot = subst (λ (l : Known). IsSpot t a 0 (first_row place t cmd reply (shared_of t) r l).1) (sym was) spot;
            },
            more.1,
          ),
        )

  -- with room for the moment
  abbrev roomed : Bool → Row → Row
  roomed b r = cond b (halved_row r) r

  roomed-rows : (b : Bool) (arenas : List ℕ) → (cond b (halved_lines (drawn_of most arenas past s)) (drawn_of most arenas past s)).rows ≡ map (roomed b) (map (row_of most past s) arenas)
  roomed-rows true arenas = refl
  roomed-rows false arenas = sym (map-id (map (row_of most past s) arenas))

  roomed-arena : (b : Bool) (a : ℕ) → (roomed b (row_of most past s a)).arena ≡ a
  roomed-arena true a = refl
  roomed-arena false a = refl

  roomed-stands : (b : Bool) (a : ℕ) → (roomed b (row_of most past s a)).stands ≡ level_at a s
  roomed-stands true a = refl
  roomed-stands false a = refl

-- the rows that take a moment are those with it
taken-rows : (place : ℕ) (t : State) (f g : ℕ → Row) (arenas : List ℕ) (ks : List Known) → ((a : ℕ) → f a ≡ g a) → AreKnown place 0 t f arenas ks → AreKnown place 0 t g arenas ks
taken-rows place t f g [] [] same h = tt
taken-rows place t f g [] (k ∷ ks) same h = absurd h
taken-rows place t f g (a ∷ arenas) [] same h = absurd h
taken-rows place t f g (a ∷ arenas) (k ∷ ks) same h =
    (record { is = h.0.is ∙ ap (known_of place (view_at a t)) (same a); spot = h.0.spot }, taken-rows place t f g arenas ks same h.1)

-- it is as the first of all is taken
chart-begun : (whole : Whole) (most : ℕ) (before : List State) (s t : State) (seat : ℕ) (cmd : Cmd) (reply : Reply) → 0 < most → step s seat cmd ≡ (reply, t) → Fine t
    → (arenas : List ℕ) (ks : List Known) (given : Shared) → IsHeld most before s arenas ks given
    → IsFollowed most arenas (before ++ s ∷ []) t (begun_chart t cmd reply (record { chart = chart_of most arenas (before ++ s ∷ []) s; known = ks; shares = given }))
chart-begun whole most before s t seat cmd reply some answered fine' arenas ks given held =
    let moments : List State = before ++ s ∷ [] in
    let c : Charted = chart_of most arenas moments s in
    let b : Bool = nat_le (most * width_of most (length moments)) (length moments) in
    let next : length moments + 1 ≡ suc (length moments) = omega arith in
    let place : ℕ = length moments / width_of most (length moments + 1) in
    let where_ : place ≡ place_of most (length moments) = ap (λ k. length moments / width_of most k) next in
    let roomed_ : (roomed_lines c).rows ≡ map (roomed whole most before s t seat cmd reply answered fine' place b) (map (row_of most moments s) arenas) =
    roomed-rows whole most before s t seat cmd reply answered fine' place b arenas in
    let rows =
    begun-rows whole most before s t seat cmd reply answered fine' place (roomed whole most before s t seat cmd reply answered fine' place b)
    (roomed-arena whole most before s t seat cmd reply answered fine' place b) (roomed-stands whole most before s t seat cmd reply answered fine' place b) held.drift arenas ks held.known in
    let made : (first_rows place t cmd reply (roomed_lines c).rows ks).0 ≡ map (taken_row place t cmd reply) (roomed_lines c).rows =
    (λ i. (first_rows place t cmd reply (roomed_ i) ks).0) ∙ rows.0 ∙ (λ i. map (taken_row place t cmd reply) (sym roomed_ i)) in
    let as_first : (begun_chart t cmd reply (record { chart = c; known = ks; shares = given })).chart ≡ (first_chart t cmd reply c).chart =
    λ i. record {
      most = most;
      moments = length moments + 1;
      lines =
          record {
            limit = added place (Some (limit_of t)) (roomed_lines c).limit;
            effective = added place (Some (effective_limit_of t)) (roomed_lines c).effective;
            rows = made i;
          };
    } in
    let first = chart-first most moments s t seat cmd reply some answered arenas in
    let taken : (a : ℕ) → taken_row (place_of most (length moments)) t cmd reply (cond b (halved_row (row_of most moments s a)) (row_of most moments s a)) ≡ row_of most (moments ++ t ∷ []) t a =
    λ a. row-taken b refl a in
    record {
      chart = as_first ∙ ap (λ (f : Followed). f.chart) first;
      held =
          record {
            drift = 0;
            known =
                taken-rows (place_of most (length moments)) t (λ a. taken_row (place_of most (length moments)) t cmd reply (roomed whole most before s t seat cmd reply answered fine' place b (row_of most moments s a)))
                (row_of most (moments ++ t ∷ []) t) arenas (first_rows place t cmd reply (roomed_lines c).rows ks).1 taken
                (subst (λ p. AreKnown p 0 t (λ a. taken_row p t cmd reply (roomed whole most before s t seat cmd reply answered fine' place b (row_of most moments s a))) arenas (first_rows place t cmd reply (roomed_lines c).rows ks).1) where_
                (subst (λ (rs : List Row). AreKnown place 0 t (λ a. taken_row place t cmd reply (roomed whole most before s t seat cmd reply answered fine' place b (row_of most moments s a))) arenas (first_rows place t cmd reply rs ks).1) (sym roomed_) rows.1));
            shares = refl;
          };
    }
  where
    row-taken : (b : Bool) → nat_le (most * width_of most (length (before ++ s ∷ []))) (length (before ++ s ∷ [])) ≡ b → (a : ℕ)
        → taken_row (place_of most (length (before ++ s ∷ []))) t cmd reply (cond b (halved_row (row_of most (before ++ s ∷ []) s a)) (row_of most (before ++ s ∷ []) s a))
        ≡ row_of most ((before ++ s ∷ []) ++ t ∷ []) t a
    row-taken true full a = readied-row true most (before ++ s ∷ []) s t a (stands_after a (level_at a s) cmd reply) some full (stood-after s t seat cmd reply answered a)
    row-taken false full a = readied-row false most (before ++ s ∷ []) s t a (stands_after a (level_at a s) cmd reply) some full (stood-after s t seat cmd reply answered a)

-- ---- a moment in the column of the last

module _ (whole : Whole) (most : ℕ) (before : List State) (s t : State) (seat : ℕ) (cmd : Cmd) (reply : Reply) (some : 0 < most) (on : GoesOn most (length before))
    (answered : step s seat cmd ≡ (reply, t)) (fine : Fine s) (fine' : Fine t) where
  abbrev moments : List State
  moments = before ++ s ∷ []

  abbrev place : ℕ
  place = length moments / width_of most (suc (length moments))

  -- it is the column of the last
  pub same-place : place ≡ place_of most (length before)
  same-place =
      let n : ℕ = length before in
      let count : length moments ≡ suc n = omega (arith, length_push before s) in
      ap (λ k. k / width_of most (suc k)) count ∙ ap (λ v. suc n / v) on.wide ∙ on.here

  module _ (d : ℕ) where
    -- how far the levels have then drifted
    abbrev e : ℕ
    e = drifted cmd (shared_at s d) t.levels (all_asked t)

    abbrev kept : List Bool
    kept = kept_levels cmd (shared_of s) (shared_of t) t.levels

    rows-near : (arenas : List ℕ) (ks : List Known) → AreKnown place d s (row_of most moments s) arenas ks
        → ((pairwise (near_row place t cmd reply (shared_at t e) kept) (map (row_of most moments s) arenas) ks).0 ≡ map (row_of most (moments ++ t ∷ []) t) arenas)
        × AreKnown place e t (row_of most (moments ++ t ∷ []) t) arenas (pairwise (near_row place t cmd reply (shared_at t e) kept) (map (row_of most moments s) arenas) ks).1
    rows-near [] [] h = (refl, tt)
    rows-near [] (k ∷ ks) h = absurd h
    rows-near (a ∷ arenas) [] h = absurd h
    rows-near (a ∷ arenas) (k ∷ ks) h =
        let row : Row = row_of most moments s a in
        let was : k ≡ record (known_of place (view_at a s) row) { spot = k.spot } = spot-back place d s row a k h.0 in
        let right : is_just a (subject cmd reply) ≡ false → IsSpot t a e k = λ apart. spot-step s t seat a d cmd reply k answered apart fine fine' h.0.spot in
        let first = near-row most before s t some on whole seat cmd reply answered fine fine' a k.spot e (stood-after s t seat cmd reply answered a)
        (λ apart. subst (IsSpot t a e) was (right apart)) in
        let spot = near-spot s t seat cmd reply answered fine' place a e k row kept right in
        let made = ap (λ (l : Known). bared (near_row place t cmd reply (shared_at t e) kept row l)) was ∙ first in
        let more = rows-near arenas ks h.1 in (
          λ i. (made i).0 ∷ more.0 i,
          (
            record {
              is = ap (λ (p : Row × Known). p.1) made;
              spot = spot;
            },
            more.1,
          ),
        )

    rows-seat : moves_seat cmd ≡ true → (arenas : List ℕ) (ks : List Known) → AreKnown place d s (row_of most moments s) arenas ks
        → ((pairwise (seat_row place t cmd reply (is_joined (shared_of s) (shared_of t)) (shared_at t d)) (map (row_of most moments s) arenas) ks).0 ≡ map (row_of most (moments ++ t ∷ []) t) arenas)
        × AreKnown place d t (row_of most (moments ++ t ∷ []) t) arenas (pairwise (seat_row place t cmd reply (is_joined (shared_of s) (shared_of t)) (shared_at t d)) (map (row_of most moments s) arenas) ks).1
    rows-seat moves [] [] h = (refl, tt)
    rows-seat moves [] (k ∷ ks) h = absurd h
    rows-seat moves (a ∷ arenas) [] h = absurd h
    rows-seat moves (a ∷ arenas) (k ∷ ks) h =
        let row : Row = row_of most moments s a in
        let more_ : Bool = is_joined (shared_of s) (shared_of t) in
        let was : k ≡ record (known_of place (view_at a s) row) { spot = k.spot } = spot-back place d s row a k h.0 in
        let right : IsSpot t a d k = spot-seat s t seat a d cmd reply k answered moves h.0.spot in
        let first = seat-row most before s t some on whole seat cmd reply answered fine fine' a k.spot d (stood-after s t seat cmd reply answered a) moves in
        let spot = seat-spot s t seat cmd reply answered fine' place a d k row more_ right in
        let made = ap (λ (l : Known). bared (seat_row place t cmd reply more_ (shared_at t d) row l)) was ∙ first in
        let more = rows-seat moves arenas ks h.1 in (
          λ i. (made i).0 ∷ more.0 i,
          (
            record {
              is = ap (λ (p : Row × Known). p.1) made;
              spot = spot;
            },
            more.1,
          ),
        )

    -- what is given after a command of a seat
    given-seat : moves_seat cmd ≡ true → after_seat t (shared_at s d) ≡ shared_at t d
    given-seat moves = ap (λ (g : Shared). record g { drift = d }) (sym (even-step s t seat cmd reply answered moves).shares)

    -- the rows at the last moment, what is then known, and what is given
    record IsNext (arenas : List ℕ) (ks : List Known) : Type 0 where
      drift : ℕ
      shares : now_shared cmd t (shared_at s d) ≡ shared_at t drift
      rows : (near_rows place t cmd reply (shared_at s d) (map (row_of most moments s) arenas) ks).0 ≡ map (row_of most (moments ++ t ∷ []) t) arenas
      known : AreKnown place drift t (row_of most (moments ++ t ∷ []) t) arenas (near_rows place t cmd reply (shared_at s d) (map (row_of most moments s) arenas) ks).1

    rows-next : (arenas : List ℕ) (ks : List Known) → AreKnown place d s (row_of most moments s) arenas ks → IsNext arenas ks
    rows-next arenas ks h =
        elim (cases_Bool (moves_seat cmd)) [
          | inl moves ↦
              let given = given-seat moves in
              let rows = rows-seat moves arenas ks h in
              let made : (pairwise (seat_row place t cmd reply (is_joined (shared_of s) (shared_of t)) (shared_at t d)) (map (row_of most moments s) arenas) ks)
              ≡ near_rows place t cmd reply (shared_at s d) (map (row_of most moments s) arenas) ks =
              (λ i. pairwise (seat_row place t cmd reply (is_joined (shared_of s) (sym given i)) (sym given i)) (map (row_of most moments s) arenas) ks) ∙ sym (rw moves refl) in
              record {
                drift = d;
                shares = rw moves given;
                rows = ap (λ (p : List Row × List Known). p.0) (sym made) ∙ rows.0;
                known = subst (λ (p : List Row × List Known). AreKnown place d t (row_of most (moments ++ t ∷ []) t) arenas p.1) made rows.1;
              }
          | inr other ↦
              let rows = rows-near arenas ks h in
              let made : (pairwise (near_row place t cmd reply (shared_at t e) kept) (map (row_of most moments s) arenas) ks)
              ≡ near_rows place t cmd reply (shared_at s d) (map (row_of most moments s) arenas) ks = sym (rw other refl) in
              record {
                drift = e;
                shares = rw other refl;
                rows = ap (λ (p : List Row × List Known). p.0) (sym made) ∙ rows.0;
                known = subst (λ (p : List Row × List Known). AreKnown place e t (row_of most (moments ++ t ∷ []) t) arenas p.1) made rows.1;
              }
        ]

  chart-near : (arenas : List ℕ) (ks : List Known) (given : Shared) → IsHeld most before s arenas ks given
      → IsFollowed most arenas moments t (near_chart t cmd reply (record { chart = chart_of most arenas moments s; known = ks; shares = given }))
  chart-near arenas ks given held =
      let d : ℕ = held.drift in
      let next : length moments + 1 ≡ suc (length moments) = omega arith in
      let where_ : length moments / width_of most (length moments + 1) ≡ place = ap (λ k. length moments / width_of most k) next in
      let count : length moments + 1 ≡ length (moments ++ t ∷ []) = omega (arith, length_push moments t) in
      let known : AreKnown place d s (row_of most moments s) arenas ks = subst (λ p. AreKnown p d s (row_of most moments s) arenas ks) (sym same-place) held.known in
      let rows = rows-next d arenas ks known in
      let limit = ap (λ (g : Shared). changed place (limit_of s) g.limit (line_of most (λ u. Some (limit_of u)) moments)) rows.shares ∙ limited-next most before s t some on limit_of in
      let effective =
      ap (λ (g : Shared). changed place (effective_limit_of s) g.effective (line_of most (λ u. Some (effective_limit_of u)) moments)) rows.shares
      ∙ limited-next most before s t some on effective_limit_of in
      record {
        chart =
            (λ i. record {
              most = most;
              moments = length moments + 1;
              lines = near_lines (where_ i) t cmd reply (held.shares i) ks (drawn_of most arenas moments s);
            })
            ∙ (λ i. record { most = most; moments = count i; lines = record { limit = limit i; effective = effective i; rows = rows.rows i } });
        held =
            record {
              drift = rows.drift;
              known =
                  subst (λ p. AreKnown place rows.drift t (row_of most (moments ++ t ∷ []) t) arenas (near_rows p t cmd reply given (map (row_of most moments s) arenas) ks).1) (sym where_)
                  (subst (λ (g : Shared). AreKnown place rows.drift t (row_of most (moments ++ t ∷ []) t) arenas (near_rows place t cmd reply g (map (row_of most moments s) arenas) ks).1) (sym held.shares) rows.known);
              shares = ap (now_shared cmd t) held.shares ∙ rows.shares;
            };
      }

-- ---- a moment more, in each way

-- what is known of a market that is as it was
known-still : (most drift : ℕ) (before : List State) (s : State) (arenas : List ℕ) (ks : List Known) → 0 < most → GoesOn most (length before)
    → AreKnown (place_of most (length before)) drift s (row_of most (before ++ s ∷ []) s) arenas ks
    → AreKnown (place_of most (length (before ++ s ∷ []))) drift s (row_of most ((before ++ s ∷ []) ++ s ∷ []) s) arenas ks
known-still most drift before s [] [] some on h = tt
known-still most drift before s [] (k ∷ ks) some on h = absurd h
known-still most drift before s (a ∷ arenas) [] some on h = absurd h
known-still most drift before s (a ∷ arenas) (k ∷ ks) some on h =
    let n : ℕ = length before in
    let count : length (before ++ s ∷ []) ≡ suc n = omega (arith, length_push before s) in
    let place : place_of most (length (before ++ s ∷ [])) ≡ place_of most n = ap (λ k. k / width_of most (suc k)) count ∙ ap (λ v. suc n / v) on.wide ∙ on.here in
    let row = row-still most before s some on a in
    let more = known-still most drift before s arenas ks some on h.1 in
    (record { is = h.0.is ∙ (λ i. known_of (sym place i) (view_at a s) (sym row i)); spot = h.0.spot }, more)

goes-from : (most : ℕ) (arenas : List ℕ) (before : List State) (s : State) → 0 < most → goes_on (chart_of most arenas (before ++ s ∷ []) s) ≡ true → GoesOn most (length before)
goes-from most arenas before s some goes =
    let count : length (before ++ s ∷ []) ≡ suc (length before) = omega (arith, length_push before s) in
    let goes' : nat_lt 0 (suc (length before) % width_of most (suc (length before))) ≡ true = ap (λ n. nat_lt 0 (n % width_of most n)) (sym count) ∙ goes in
    let within : 0 < suc (length before) % width_of most (suc (length before)) = grind (arith, nat_tests) in
    goes-on most (length before) some within

pub next-known : (whole : Whole) (most : ℕ) (arenas : List ℕ) (moments : List State) (s t : State) (seat : ℕ) (cmd : Cmd) (reply : Reply) (ks : List Known) (given : Shared) → 0 < most
    → step s seat cmd ≡ (reply, t) → Fine s → Fine t → Knows most s arenas moments ks given
    → IsFollowed most arenas moments t (next_chart t cmd reply (record { chart = chart_of most arenas moments s; known = ks; shares = given }))
next-known whole most arenas moments s t seat cmd reply ks given some answered fine fine' knows = go (goes_on (chart_of most arenas moments s)) refl (is_still reply) refl knows
  where
    followed : Followed
    followed = record { chart = chart_of most arenas moments s; known = ks; shares = given }

    from : List State → Followed
    from ms = record { chart = chart_of most arenas ms s; known = ks; shares = given }

    go : (on : Bool) → goes_on (chart_of most arenas moments s) ≡ on → (still : Bool) → is_still reply ≡ still → Knows most s arenas moments ks given
        → IsFollowed most arenas moments t
        (cond on (cond still (record followed { chart = counted_chart (chart_of most arenas moments s) }) (near_chart t cmd reply followed))
        (cond (length moments == 0) (first_chart t cmd reply (chart_of most arenas moments s)) (begun_chart t cmd reply followed)))
    go false off still is (inl none) =
        let empty : (length moments == 0) ≡ true = ap (λ (ms : List State). length ms == 0) none in
        rw empty (followed-is most arenas moments t (first_chart t cmd reply (chart_of most arenas moments s)) (chart-first most moments s t seat cmd reply some answered arenas))
    go false off still is (inr k) =
        let ends : moments ≡ k.0 ++ s ∷ [] = k.1.0 in
        let count : length moments ≡ suc (length k.0) = ap length ends ∙ omega (arith, length_push k.0 s) in
        let some_ : 0 < length moments = omega (arith, count) in
        let open_ : (length moments == 0) ≡ false = grind (arith, nat_tests) in
        rw open_ (subst (λ ms. IsFollowed most arenas ms t (begun_chart t cmd reply (from ms))) (sym ends) (chart-begun whole most k.0 s t seat cmd reply some answered fine' arenas ks given k.1.1))
    go true on still is (inl none) =
        let bad : goes_on (chart_of most arenas [] s) ≡ true = ap (λ ms. goes_on (chart_of most arenas ms s)) (sym none) ∙ on in
        absurd (true≢false (sym bad))
    go true on true is (inr k) =
        let ends : moments ≡ k.0 ++ s ∷ [] = k.1.0 in
        let goes : goes_on (chart_of most arenas (k.0 ++ s ∷ []) s) ≡ true = ap (λ ms. goes_on (chart_of most arenas ms s)) (sym ends) ∙ on in
        let still_ : t ≡ s = stays-so s t seat cmd reply answered is in
        let chart = ap (λ ms. counted_chart (chart_of most arenas ms s)) ends ∙ chart-still most arenas k.0 s t seat cmd reply some answered is goes ∙ ap (λ ms. chart_of most arenas (ms ++ t ∷ []) t) (sym ends) in
        let known = known-still most k.1.1.drift k.0 s arenas ks some (goes-from most arenas k.0 s some goes) k.1.1.known in
        record {
          chart = chart;
          held =
              record {
                drift = k.1.1.drift;
                known =
                    subst (λ ms. AreKnown (place_of most (length ms)) k.1.1.drift t (row_of most (ms ++ t ∷ []) t) arenas ks) (sym ends)
                    (subst (λ (u : State). AreKnown (place_of most (length (k.0 ++ s ∷ []))) k.1.1.drift u (row_of most ((k.0 ++ s ∷ []) ++ u ∷ []) u) arenas ks) (sym still_) known);
                shares = k.1.1.shares ∙ ap (λ (u : State). shared_at u k.1.1.drift) (sym still_);
              };
        }
    go true on false is (inr k) =
        let ends : moments ≡ k.0 ++ s ∷ [] = k.1.0 in
        let goes : goes_on (chart_of most arenas (k.0 ++ s ∷ []) s) ≡ true = ap (λ ms. goes_on (chart_of most arenas ms s)) (sym ends) ∙ on in
        let near = chart-near whole most k.0 s t seat cmd reply some (goes-from most arenas k.0 s some goes) answered fine fine' arenas ks given k.1.1 in
        subst (λ ms. IsFollowed most arenas ms t (near_chart t cmd reply (from ms))) (sym ends) near

-- ---- as many are known as there are rows

halved-length : (rows : List Row) → length (map halved_row rows) ≡ length rows
halved-length [] = refl
halved-length (r ∷ rows) = ap (λ n. suc n) (halved-length rows)

roomed-if : (b : Bool) (d : Drawn) → length (cond b (halved_lines d) d).rows ≡ length d.rows
roomed-if true d = halved-length d.rows
roomed-if false d = refl

pair-rows : {X Y : Type 0} (f : X → Y → X × Y) (xs : List X) (ys : List Y) → length (pairwise f xs ys).0 ≡ length xs
pair-rows f [] ys = refl
pair-rows f (x ∷ xs) [] = refl
pair-rows f (x ∷ xs) (y ∷ ys) = ap (λ n. suc n) (pair-rows f xs ys)

near-length : (place : ℕ) (s : State) (cmd : Cmd) (reply : Reply) (was : Shared) (rows : List Row) (ks : List Known) → length (near_rows place s cmd reply was rows ks).0 ≡ length rows
near-length place s cmd reply was rows ks = go (moves_seat cmd)
  where
    go : (b : Bool) → length (cond b (seat_rows place s cmd reply was rows ks) (each_row place s cmd reply was rows ks)).0 ≡ length rows
    go true = pair-rows (seat_row place s cmd reply (is_joined was (after_seat s was)) (after_seat s was)) rows ks
    go false = pair-rows (near_row place s cmd reply (shared_after cmd was s) (kept_levels cmd was (shared_of s) s.levels)) rows ks

-- a chart that takes a moment has as many rows as before, and a moment more
pub record IsMore (s : State) (cmd : Cmd) (reply : Reply) (f : Followed) : Type 0 where
  pub rows : length (next_chart s cmd reply f).chart.lines.rows ≡ length f.chart.lines.rows
  pub moments : (next_chart s cmd reply f).chart.moments ≡ f.chart.moments + 1

pub next-more : (s : State) (cmd : Cmd) (reply : Reply) (f : Followed) → IsMore s cmd reply f
next-more s cmd reply f =
    record { rows = rows (goes_on f.chart) (is_still reply) (f.chart.moments == 0); moments = moments (goes_on f.chart) (is_still reply) (f.chart.moments == 0) }
  where
    next : Bool → Bool → Bool → Followed
    next on still none = cond on (cond still (record f { chart = counted_chart f.chart }) (near_chart s cmd reply f)) (cond none (first_chart s cmd reply f.chart) (begun_chart s cmd reply f))

    rows : (on still none : Bool) → length (next on still none).chart.lines.rows ≡ length f.chart.lines.rows
    rows false still true = length-map (roomed_lines f.chart).rows _ ∙ roomed-if (nat_le (f.chart.most * width_of f.chart.most f.chart.moments) f.chart.moments) f.chart.lines
    rows false still false =
        pair-rows (first_row (f.chart.moments / width_of f.chart.most (f.chart.moments + 1)) s cmd reply (shared_of s)) (roomed_lines f.chart).rows f.known
        ∙ roomed-if (nat_le (f.chart.most * width_of f.chart.most f.chart.moments) f.chart.moments) f.chart.lines
    rows true true none = refl
    rows true false none =
        near-length (f.chart.moments / width_of f.chart.most (f.chart.moments + 1)) s cmd reply f.shares f.chart.lines.rows f.known

    moments : (on still none : Bool) → (next on still none).chart.moments ≡ f.chart.moments + 1
    moments false still true = refl
    moments false still false = refl
    moments true true none = refl
    moments true false none = refl
