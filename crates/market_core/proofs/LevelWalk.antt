-- The rows that a walk through a level finds with its carry are the market's.
use Rattle.std.proofs.Common.{◌≡◌, ℕ, suc, ◌+◌, ◌*◌, ◌/◌, ◌%◌, ◌<◌, ◌≤◌, eqb, cond, List, [], ◌∷◌, take, map, Option, Some, refl, sym, ap, subst, ◌∙◌, inl, inr, arith, length, length-append}
use Rattle.std.specs.Prelude.{slice_get}
use Rattle.std.specs.List.{All}
use Rattle.std.proofs.lemmas.Bool.{cases_eq, eq-eqb, ne_eqb}
use Rattle.std.proofs.lemmas.List.Elements.{All-nil, All-cons}
use Rattle.std.proofs.lemmas.Option.{slice_get_within, get_or_from_slice_get}
use Rattle.market_types.specs.declared.row.Row.{Row}
use Rattle.market_types.specs.State.{Arena, State}
use Rattle.market_types.specs.Claims.{request_of}
use Rattle.market_types.specs.Allotment.{at_level, share_of, carry_past, carry_after, assigned, demand, allotment_of, active, limit_of, bound_of, mandatory_pick, is_just}
use Rattle.market_types.specs.Step.{arena_at}
use Rattle.allotment.specs.Levels.{pick_of}
use Rattle.arena_store.specs.Arenas.{IsFound, StandOnce, newer, level_row, level_rows}
use Rattle.recall_hire.specs.declared.sharing.Sharing.TheVariants.{Carried, Picked}
use Rattle.recall_hire.specs.declared.rows.Staffing.{Staffing}
use Rattle.recall_hire.specs.Shared.{row_carry, staffed}
use Rattle.recall_hire.specs.Staffed.{row_of, rows_among}
use Rattle.market_core.specs.Divided.{rows_at}
use Rattle.std.proofs.lemmas.List.{length-map}
use Rattle.market_core.specs.Visits.{extra_visits}
use Rattle.market_core.proofs.Order.{levels_from}
use Rattle.market_core.proofs.Numbers.{All-found}
use Rattle.market_core.proofs.Allotted.{allotment_of-found, allotment_of-picked, all_to-number, just-all}

-- ---- where some worker may be active

all-at_level : (level : ℕ) (arenas : List Arena) → All (λ (a : Arena). a.level ≡ level) (at_level level arenas)
all-at_level level [] = All-nil (λ (a : Arena). a.level ≡ level)
all-at_level level (b ∷ bs) =
    elim (cases_eq b.level level) [
      | inl same ↦ rw (eq-eqb b.level level same) (All-cons (λ (a : Arena). a.level ≡ level) b (at_level level bs) same (all-at_level level bs))
      | inr m ↦ rw (ne_eqb b.level level m) (all-at_level level bs)
    ]

level-of : (level p : ℕ) (arenas : List Arena) (a : Arena) → slice_get (at_level level arenas) p ≡ Some a → a.level ≡ level
level-of level p arenas a e =
    let xs = at_level level arenas in
    subst (λ (x : Arena). x.level ≡ level) (get_or_from_slice_get xs p a a e) (all-at_level level arenas p a (slice_get_within xs p a e))

-- a market where some worker may be active
pub record Shared (s : State) : Type 0 where
  pub stand : StandOnce s.arenas
  pub leveled : All (λ (a : Arena). (1 ≤ a.level) × (a.level ≤ s.levels)) s.arenas
  pub some : 0 < limit_of s
  pub whole : (level : ℕ) → carry_after (assigned s) (demand s) 0 (at_level level s.arenas) ≡ 0

module _ (s : State) (level p : ℕ) (a : Arena) (h : Shared s) (e : slice_get (at_level level s.arenas) p ≡ Some a) where
  there : arena_at a.number s.arenas ≡ Some a
  there = (h.stand.in_level level p a e).by_number

  found : IsFound a.number a s.arenas
  found = h.stand.found a.number a there

  pub here : a.level ≡ level
  here = level-of level p s.arenas a e

  shared : allotment_of s a.number ≡ share_of (assigned s) (demand s) (carry_after (assigned s) (demand s) 0 (at_level a.level (newer a.stamp s.arenas))) a
  shared = allotment_of-found s a.number a found (All-found (λ (b : Arena). (1 ≤ b.level) × (b.level ≤ s.levels)) a.number s.arenas a there h.leveled) h.some h.whole

  -- the arena at an index of a level is allotted its share, by the carry after those before it there
  pub by-carry : allotment_of s a.number ≡ share_of (assigned s) (demand s) (carry_after (assigned s) (demand s) 0 (take p (at_level level s.arenas))) a
  by-carry =
      shared
      ∙ ap (λ l. share_of (assigned s) (demand s) (carry_after (assigned s) (demand s) 0 (at_level l (newer a.stamp s.arenas))) a) here
      ∙ ap (λ xs. share_of (assigned s) (demand s) (carry_after (assigned s) (demand s) 0 xs) a) (h.stand.in_level level p a e).newer_before

-- one row after the other, from a carry on
walked : (s : State) (K D : ℕ → ℕ) (level c : ℕ) (ys : List Arena)
    → ((i : ℕ) (a : Arena) → slice_get ys i ≡ Some a → (a.level ≡ level) × (allotment_of s a.number ≡ share_of K D (carry_after K D c (take i ys)) a))
    → staffed (Carried (K level) (D level)) s.seats c (map level_row ys) ≡ rows_among s ys
walked s K D level c [] h = refl
walked s K D level c (y ∷ ys) h =
    let q : ℕ = request_of y.claim in
    let here : (y.level ≡ level) × (allotment_of s y.number ≡ share_of K D c y) = h 0 y refl in
    let given : cond (eqb q 0) 0 ((q * K level + c) / D level) ≡ allotment_of s y.number =
    sym (here.1 ∙ ap (λ l. cond (eqb q 0) 0 ((q * K l + c) / D l)) here.0) in
    let on : cond (eqb q 0) c ((q * K level + c) % D level) ≡ carry_past K D c y =
    sym (ap (λ l. cond (eqb q 0) c ((q * K l + c) % D l)) here.0) in
    let row : ℕ → Staffing = λ n. record { arena = y.number; allotted = n; active = active s y.number } in
    ap (λ n. row n ∷ staffed (Carried (K level) (D level)) s.seats (row_carry (Carried (K level) (D level)) c (level_row y)) (map level_row ys)) given
    ∙ ap (λ n. row_of s y ∷ staffed (Carried (K level) (D level)) s.seats n (map level_row ys)) on
    ∙ ap (λ rows. row_of s y ∷ rows) (walked s K D level (carry_past K D c y) ys (λ i a e. h (suc i) a e))

pub level-walked : (s : State) (level : ℕ) → Shared s → staffed (Carried (assigned s level) (demand s level)) s.seats 0 (level_rows level s.arenas) ≡ rows_at s level
level-walked s level h = walked s (assigned s) (demand s) level 0 (at_level level s.arenas) (λ i a e. (here s level i a h e, by-carry s level i a h e))

-- told of what the code has of them
pub walk-of : (s : State) (level given asked : ℕ) (seats : List (Option ℕ)) (rows : List Row) → Shared s → given ≡ assigned s level → asked ≡ demand s level → seats ≡ s.seats → rows ≡ level_rows level s.arenas
    → staffed (Carried given asked) seats 0 rows ≡ rows_at s level
walk-of s level given asked seats rows h e f g i = rw (e, f, g, i) (level-walked s level h)

-- ---- where none may be

picked-share : (s : State) (picked : Option ℕ) (bound n : ℕ) → limit_of s ≡ 0 → picked ≡ pick_of s → bound ≡ bound_of s → cond (is_just n picked) bound 0 ≡ allotment_of s n
picked-share s picked bound n none e f =
    ap (λ o. cond (is_just n o) bound 0) e ∙ ap (λ w. cond (is_just n (pick_of s)) w 0) f
    ∙ just-all (pick_of s) (bound_of s) n ∙ sym (allotment_of-picked s n none ∙ all_to-number (mandatory_pick s) (bound_of s) n)

picked-rows : (s : State) (picked : Option ℕ) (bound c : ℕ) (ys : List Arena) → limit_of s ≡ 0 → picked ≡ pick_of s → bound ≡ bound_of s
    → staffed (Picked picked bound) s.seats c (map level_row ys) ≡ rows_among s ys
picked-rows s picked bound c [] none e f = refl
picked-rows s picked bound c (y ∷ ys) none e f =
    let row : ℕ → Staffing = λ n. record { arena = y.number; allotted = n; active = active s y.number } in
    ap (λ n. row n ∷ staffed (Picked picked bound) s.seats c (map level_row ys)) (picked-share s picked bound y.number none e f)
    ∙ ap (λ rows. row_of s y ∷ rows) (picked-rows s picked bound c ys none e f)

pub level-picked : (s : State) (picked : Option ℕ) (bound level : ℕ) → limit_of s ≡ 0 → picked ≡ pick_of s → bound ≡ bound_of s
    → staffed (Picked picked bound) s.seats 0 (level_rows level s.arenas) ≡ rows_at s level
level-picked s picked bound level none e f = picked-rows s picked bound 0 (at_level level s.arenas) none e f

pub picked-of : (s : State) (level : ℕ) (picked : Option ℕ) (bound : ℕ) (seats : List (Option ℕ)) (rows : List Row) → limit_of s ≡ 0 → picked ≡ pick_of s → bound ≡ bound_of s → seats ≡ s.seats → rows ≡ level_rows level s.arenas
    → staffed (Picked picked bound) seats 0 rows ≡ rows_at s level
picked-of s level picked bound seats rows none e f g i = rw (g, i) (level-picked s picked bound level none e f)

-- ---- how many rows there are

-- a level's, and those of the levels after it
pub coming-length : (s : State) (from n m : ℕ) → m ≡ suc n → length (levels_from from m s.arenas) ≡ length (rows_at s from) + length (levels_from (from + 1) n s.arenas)
coming-length s from n m e =
    ap (λ k. length (levels_from from k s.arenas)) e ∙ length-append (at_level from s.arenas) (levels_from (from + 1) n s.arenas)
    ∙ ap (λ k. k + length (levels_from (from + 1) n s.arenas)) (sym (length-map (at_level from s.arenas) (row_of s)))

pub coming-none : (s : State) (from m : ℕ) → m ≡ 0 → length (levels_from from m s.arenas) ≡ 0
coming-none s from m e = rw e refl

-- where some worker may be active, nothing more is entered
pub extra-none : (s : State) → 0 < limit_of s → extra_visits s ≡ 0
extra-none s some = rw (ne_eqb (limit_of s) 0 (λ n. absurd (omega arith))) refl
