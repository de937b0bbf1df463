-- Seats that are placed: each at one arena at most.
use Rattle.std.proofs.Common.{◌≡◌, ℕ, suc, ◌+◌, ◌≤◌, Bool, cond, eqb, List, [], ◌∷◌, Option, Some, None, refl, sym, ap, ◌∙◌, arith, inl, inr}
use Rattle.std.specs.Prelude.{is_some}
use Rattle.std.specs.List.{sum_by, count_by}
use Rattle.std.proofs.lemmas.Bool.{cases_eq, eq-eqb, ne_eqb}
use Rattle.std.proofs.lemmas.List.Sums.{sum_by-cons, sum_by-append}
use Rattle.market_types.specs.State.{Arena, State}
use Rattle.market_types.specs.Allotment.{in_order, is_just}
use Rattle.allotment.specs.Levels.{IsLeveled}
use Rattle.arena_store.specs.Arenas.{has_number, StandOnce}
use Rattle.recall_hire.specs.declared.rows.Staffing.{Staffing}
use Rattle.recall_hire.specs.Staffed.{row_of, rows_of, rows_among, actives}
use Rattle.market_core.specs.Divided.{rows_at}
use Rattle.market_core.proofs.Order.{levels_from, sum-in_levels}
use Rattle.market_core.proofs.Listing.{rows-parts}

abbrev one-if : Bool → ℕ
one-if b = cond b 1 0

-- one where the seat is placed at the arena
abbrev at-arena : Option ℕ → Arena → ℕ
at-arena seat a = one-if (is_just a.number seat)

-- how many of the seats are placed at the arena
abbrev seats-at : List (Option ℕ) → Arena → ℕ
seats-at seats a = count_by (is_just a.number) seats

-- ---- one seat

at-none : (arenas : List Arena) → sum_by (at-arena None) arenas ≡ 0
at-none [] = refl
at-none (a ∷ arenas) = omega (arith, sum_by-cons (at-arena None) a arenas, at-none arenas)

at-number : (n : ℕ) (arenas : List Arena) → sum_by (at-arena (Some n)) arenas ≡ count_by (has_number n) arenas
at-number n [] = refl
at-number n (a ∷ arenas) =
    let here : at-arena (Some n) a ≡ one-if (has_number n a) = ap one-if (turned n a.number) in
    omega (arith, here, sum_by-cons (at-arena (Some n)) a arenas, sum_by-cons (λ (b : Arena). one-if (has_number n b)) a arenas, at-number n arenas)
  where
    turned : (n m : ℕ) → eqb n m ≡ eqb m n
    turned n m = elim (cases_eq n m) [
      | inl e ↦ eq-eqb n m e ∙ sym (eq-eqb m n (sym e))
      | inr f ↦ ne_eqb n m f ∙ sym (ne_eqb m n (λ e. f (sym e)))
    ]

at-one : (seat : Option ℕ) (arenas : List Arena) → ((n : ℕ) → count_by (has_number n) arenas ≤ 1) → sum_by (at-arena seat) arenas ≤ one-if (is_some seat)
at-one None arenas once = omega (arith, at-none arenas)
at-one (Some n) arenas once = omega (arith, once n, at-number n arenas)

-- ---- all seats

one-more : (seat : Option ℕ) (seats : List (Option ℕ)) (arenas : List Arena) → sum_by (seats-at (seat ∷ seats)) arenas ≡ sum_by (at-arena seat) arenas + sum_by (seats-at seats) arenas
one-more seat seats [] = refl
one-more seat seats (a ∷ arenas) =
    omega (
      arith,
      sum_by-cons (seats-at (seat ∷ seats)) a arenas,
      sum_by-cons (at-arena seat) a arenas,
      sum_by-cons (seats-at seats) a arenas,
      sum_by-cons (λ (o : Option ℕ). one-if (is_just a.number o)) seat seats,
      one-more seat seats arenas,
    )

no-seats : (arenas : List Arena) → sum_by (seats-at []) arenas ≡ 0
no-seats [] = refl
no-seats (a ∷ arenas) = omega (arith, sum_by-cons (seats-at []) a arenas, no-seats arenas)

at-most-once : (seats : List (Option ℕ)) (arenas : List Arena) → ((n : ℕ) → count_by (has_number n) arenas ≤ 1) → sum_by (seats-at seats) arenas ≤ count_by is_some seats
at-most-once [] arenas once = omega (arith, no-seats arenas)
at-most-once (seat ∷ seats) arenas once =
    omega (arith, one-more seat seats arenas, at-one seat arenas once, at-most-once seats arenas once, sum_by-cons (λ (o : Option ℕ). one-if (is_some o)) seat seats)

-- ---- a market's rows

rows-actives : (s : State) (arenas : List Arena) → actives (rows_among s arenas) ≡ sum_by (seats-at s.seats) arenas
rows-actives s [] = refl
rows-actives s (a ∷ arenas) = omega (arith, sum_by-cons (λ (r : Staffing). r.active) (row_of s a) (rows_among s arenas), sum_by-cons (seats-at s.seats) a arenas, rows-actives s arenas)

-- together they have no more seats than are placed
actives-placed : (s : State) → StandOnce s.arenas → IsLeveled s → actives (rows_of s) ≤ count_by is_some s.seats
actives-placed s stand leveled =
    omega (arith, rows-actives s (in_order s), sum-in_levels (seats-at s.seats) s.levels s.arenas leveled, at-most-once s.seats s.arenas stand.once)

-- those of a level, and of the levels after it
pub actives-coming : (s : State) (from n m : ℕ) → m ≡ suc n → actives (rows_among s (levels_from from m s.arenas)) ≡ actives (rows_at s from) + actives (rows_among s (levels_from (from + 1) n s.arenas))
actives-coming s from n m e =
    ap actives (rows-parts s from n m e) ∙ sum_by-append (λ (r : Staffing). r.active) (rows_at s from) (rows_among s (levels_from (from + 1) n s.arenas))

-- no more of them are to be met than are placed
pub unmet-begins : (s : State) (m placed : ℕ) → StandOnce s.arenas → IsLeveled s → m ≡ s.levels → placed ≡ count_by is_some s.seats → actives (rows_among s (levels_from 1 m s.arenas)) ≤ placed
unmet-begins s m placed stand leveled e f = rw (e, f) (actives-placed s stand leveled)
