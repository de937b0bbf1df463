-- The row of an arena among rows whose arenas are numbered one after another.
use Rattle.std.proofs.Common.{◌≡◌, ℕ, ◌+◌, ◌-◌, ◌<◌, ◌≤◌, ◌⊎◌, zero, suc, Bool, false, true, true≢false, cond, eqb, List, [], ◌∷◌, Option, None, Some, length, drop, get_or, refl, sym, ap, ◌∙◌, subst, arith, inl, inr}
use Rattle.std.specs.Prelude.{nat_le}
use Rattle.std.proofs.lemmas.Bool.{cases_lt, eq-eqb, eqb-true, le-leb}
use Rattle.std.proofs.lemmas.Bool.Decides.{nat_tests}
use Rattle.std.proofs.lemmas.List.{get_or-drop, length-drop}
use Rattle.std.proofs.lemmas.List.FromFn.{get_or-range_with_len}
use Rattle.market_types.specs.Allotment.{is_just}
use Rattle.market_types.specs.State.{State}
use Rattle.market_types.specs.declared.command.Cmd.{Cmd}
use Rattle.market_types.specs.declared.reply.Reply.{Reply}
use Rattle.journal_chart.specs.Rows.{Row}
use Rattle.journal_chart.specs.declared.row.Known.{Known}
use Rattle.journal_chart.specs.Numbering.{AreNumbered, arenas_of}
use Rattle.journal_chart.specs.Resting.{AreLeft, IsLeft}
use Rattle.journal_chart.specs.Shares.{Shared}
use Rattle.journal_chart.specs.declared.unkept.Unkept.TheVariants.{Nowhere}
use Rattle.journal_chart.specs.Unkept.{AreAtLevels, AreUnkept, IsAlone, IsAtLevel}
use Rattle.journal_chart.specs.Spots.{no_spot}
use Rattle.journal_chart.specs.Steps.{closed_row, is_covered, is_spared, near_row, own_row, respotted, retold, seat_row, share_of, spot_of, spotted, stands_kept, subject}

arena-of : (rows : List Row) (j : ℕ) (d : Row) → get_or (arenas_of rows) j d.arena ≡ (get_or rows j d).arena
arena-of [] j d = refl
arena-of (r ∷ rows) zero d = refl
arena-of (r ∷ rows) (suc j) d = arena-of rows j d

arena-at : (first : ℕ) (rows : List Row) (j : ℕ) (d : Row) → AreNumbered (Some first) rows → j < length rows → (get_or rows j d).arena ≡ first + j
arena-at first rows j d numbered inside =
    sym (arena-of rows j d) ∙ ap (λ ns. get_or ns j d.arena) numbered ∙ get_or-range_with_len first (length rows) j d.arena inside

not-just : (a n m : ℕ) → a ≡ n → (m ≡ n → ⊥) → is_just a (Some m) ≡ false
not-just a n m is apart = let differs : eqb m a ≡ false = grind (arith, nat_tests) in differs

-- an entry about an arena is about none of the other rows
pub apart : (first about own count : ℕ) (rows : List Row) → ((index : ℕ) → index < count → first + index ≡ about → index ≡ own) → AreNumbered (Some first) rows
    → AreLeft count (Some about) rows → (j : ℕ) (d : Row) → j < length rows → (j < count → j ≡ own → ⊥) → is_just (get_or rows j d).arena (Some about) ≡ false
apart first about own count rows alone numbered left j d inside other = go (cases_lt j count)
  where
    go : (j < count) ⊎ (count ≤ j) → is_just (get_or rows j d).arena (Some about) ≡ false
    go (inl within) = not-just (get_or rows j d).arena (first + j) about (arena-at first rows j d numbered inside) (λ e. other within (alone j within (sym e)))
    go (inr behind) =
        let at : count + (j - count) ≡ j = omega (arith, behind) in
        let is : get_or (drop count rows) (j - count) d ≡ get_or rows j d = get_or-drop count rows (j - count) d ∙ ap (λ n. get_or rows n d) at in
        let there : j - count < length (drop count rows) = omega (arith, inside, behind, length-drop count rows) in
        let here : IsLeft (Some about) (get_or (drop count rows) (j - count) d) = left (j - count) d there in
        subst (λ (r : Row). is_just r.arena (Some about) ≡ false) is here.other

same-at : (j : ℕ) (rows0 rows : List Row) (d : Row) → drop j rows ≡ drop j rows0 → get_or rows0 j d ≡ get_or rows j d
same-at j rows0 rows d rest =
    let at : j + 0 ≡ j = omega arith in
    ap (λ n. get_or rows0 n d) (sym at) ∙ sym (get_or-drop j rows0 0 d) ∙ ap (λ (rs : List Row). get_or rs 0 d) (sym rest) ∙ get_or-drop j rows 0 d ∙ ap (λ n. get_or rows n d) at

-- the same of rows that are as they were from one on
pub still-apart : (first about own count : ℕ) (rows0 rows : List Row) → ((index : ℕ) → index < count → first + index ≡ about → index ≡ own) → AreNumbered (Some first) rows0
    → AreLeft count (Some about) rows0 → (j : ℕ) (d : Row) → j < length rows0 → (j ≡ own → ⊥) → drop j rows ≡ drop j rows0 → is_just (get_or rows j d).arena (Some about) ≡ false
still-apart first about own count rows0 rows alone numbered left j d inside other rest =
    subst (λ (r : Row). is_just r.arena (Some about) ≡ false) (same-at j rows0 rows d rest) (apart first about own count rows0 alone numbered left j d inside (λ within e. other e))

-- the row that is found is told, among rows that are as they were from it on
pub own-told : (place : ℕ) (s : State) (cmd : Cmd) (reply : Reply) (now : Shared) (kept : List Bool) (first about own : ℕ) (rows0 rows : List Row) (k : Known) → AreNumbered (Some first) rows0
    → first + own ≡ about → Some about ≡ subject cmd reply → (d : Row) → own < length rows0 → drop own rows ≡ drop own rows0
    → near_row place s cmd reply now kept (get_or rows own d) k ≡ spotted no_spot (own_row place s cmd reply now k (get_or rows own d) (retold cmd reply k))
own-told place s cmd reply now kept first about own rows0 rows k numbered there is d inside rest =
    let number : (get_or rows own d).arena ≡ about = ap (λ (r : Row). r.arena) (sym (same-at own rows0 rows d rest)) ∙ arena-at first rows0 own d numbered inside ∙ there in
    let just : is_just (get_or rows own d).arena (Some about) ≡ true = let same : eqb about (get_or rows own d).arena ≡ true = grind (arith, nat_tests) in same in
    let about_it : is_just (get_or rows own d).arena (subject cmd reply) ≡ true = ap (is_just (get_or rows own d).arena) (sym is) ∙ just in
    rw about_it refl

-- a command of a seat leaves the other rows as they are
pub seat-others : (place : ℕ) (s : State) (cmd : Cmd) (reply : Reply) (more : Bool) (now : Shared) (first about own count : ℕ) (rows : List Row)
    → ((index : ℕ) → index < count → first + index ≡ about → index ≡ own) → AreNumbered (Some first) rows → AreLeft count (subject cmd reply) rows → Some about ≡ subject cmd reply
    → (j : ℕ) (d : Row) → j < length rows → (j < count → j ≡ own → ⊥) → (k : Known) → seat_row place s cmd reply more now (get_or rows j d) k ≡ (get_or rows j d, k)
seat-others place s cmd reply more now first about own count rows alone numbered left is j d inside other k =
    let left' : AreLeft count (Some about) rows = subst (λ (o : Option ℕ). AreLeft count o rows) (sym is) left in
    let none : is_just (get_or rows j d).arena (subject cmd reply) ≡ false =
    ap (is_just (get_or rows j d).arena) (sym is) ∙ apart first about own count rows alone numbered left' j d inside other in
    rw none refl

-- an arena that stands at a level, or nowhere, is allotted what it was where all levels are kept
stands-kept : (kept : List Bool) → AreUnkept kept Nowhere → (o : Option ℕ) → IsAtLevel o → stands_kept kept o ≡ true
stands-kept kept all None h = refl
stands-kept kept all (Some level) h =
    let some : nat_le 1 level ≡ true = le-leb 1 level h.0 in
    let held : get_or kept (level - 1) false ≡ true = all (level - 1) (omega (arith, h.0, h.1)) in
    rw (some, held) refl

-- a moment after which all levels are kept leaves the other rows as they are
pub kept-others : (place : ℕ) (s : State) (cmd : Cmd) (reply : Reply) (now : Shared) (kept : List Bool) (first about own count : ℕ) (rows : List Row)
    → ((index : ℕ) → index < count → first + index ≡ about → index ≡ own) → AreNumbered (Some first) rows → AreLeft count (subject cmd reply) rows → Some about ≡ subject cmd reply
    → AreUnkept kept Nowhere → AreAtLevels rows
    → (j : ℕ) (d : Row) → j < length rows → (j < count → j ≡ own → ⊥) → (k : Known) → near_row place s cmd reply now kept (get_or rows j d) k ≡ (get_or rows j d, k)
kept-others place s cmd reply now kept first about own count rows alone numbered left is all levels j d inside other k =
    let left' : AreLeft count (Some about) rows = subst (λ (o : Option ℕ). AreLeft count o rows) (sym is) left in
    let none : is_just (get_or rows j d).arena (subject cmd reply) ≡ false =
    ap (is_just (get_or rows j d).arena) (sym is) ∙ apart first about own count rows alone numbered left' j d inside other in
    let held : stands_kept kept (get_or rows j d).stands ≡ true = stands-kept kept all (get_or rows j d).stands (levels j d inside) in
    rw (none, held) refl

-- a row that is neither told nor left: it is spared, or the market is asked
pub other-row : (place : ℕ) (s : State) (cmd : Cmd) (reply : Reply) (now : Shared) (kept : List Bool) (r : Row) (k : Known) (level : ℕ)
    → is_just r.arena (subject cmd reply) ≡ false → stands_kept kept r.stands ≡ false → r.stands ≡ Some level → is_covered now k level ≡ false
    → near_row place s cmd reply now kept r k
    ≡ cond (is_spared now k level) (r, k) (respotted (spot_of s now k r.arena (Some level)) (closed_row place s cmd reply k r r (Some (share_of s now k r.arena level))))
other-row place s cmd reply now kept r k level other moved at uncovered = rw (other, moved, at, uncovered) refl

-- a row at it whose column has all that its arena may be allotted
pub covered-row : (place : ℕ) (s : State) (cmd : Cmd) (reply : Reply) (now : Shared) (kept : List Bool) (r : Row) (k : Known) (level : ℕ)
    → is_just r.arena (subject cmd reply) ≡ false → stands_kept kept r.stands ≡ false → r.stands ≡ Some level → is_covered now k level ≡ true → near_row place s cmd reply now kept r k ≡ (r, k)
covered-row place s cmd reply now kept r k level other moved at covered = rw (other, moved, at, covered) refl

-- what an option is said to be
pub just-is : (option : Option ℕ) (n : ℕ) → is_just n option ≡ true → option ≡ Some n
just-is None n is = absurd (true≢false (sym is))
just-is (Some m) n is = ap (λ (k : ℕ). Some k) (eqb-true m n is)

-- a row at another level than the one that alone is not kept, or nowhere
pub other-level : (place : ℕ) (s : State) (cmd : Cmd) (reply : Reply) (now : Shared) (kept : List Bool) (r : Row) (k : Known) (level : ℕ)
    → IsAlone kept level → is_just r.arena (subject cmd reply) ≡ false → IsAtLevel r.stands → is_just level r.stands ≡ false → near_row place s cmd reply now kept r k ≡ (r, k)
other-level place s cmd reply now kept r k level alone other within apart = of r.stands (refl {a = r.stands}) within apart
  where
    of : (stands : Option ℕ) → r.stands ≡ stands → IsAtLevel stands → is_just level stands ≡ false → near_row place s cmd reply now kept r k ≡ (r, k)
    of None at within other_level = rw (other, at) refl
    of (Some stands) at within other_level =
        let some : nat_le 1 stands ≡ true = le-leb 1 stands within.0 in
        let held : get_or kept (stands - 1) false ≡ true = alone.others stands within.0 within.1 (λ e. true≢false (sym (eq-eqb stands level e) ∙ other_level)) in
        rw (other, at, some, held) refl
