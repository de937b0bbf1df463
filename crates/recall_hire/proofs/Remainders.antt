use Rattle.std.proofs.Common.{◌≡◌, ℕ, zero, suc, ◌+◌, ◌≤◌, ◌%◌, Bool, true, false, cond, eqb, List, [], ◌∷◌, get_or, replicate, Option, Some, None, refl, ap, arith, inl, inr}
use Rattle.std.specs.List.{count_by}
use Rattle.std.proofs.lemmas.Bool.{cases_eq, eq-eqb, ne_eqb}
use Rattle.std.proofs.lemmas.List.Sums.{sum_by-cons}
use Rattle.market_types.specs.Allotment.{is_just}
use Rattle.recall_hire.specs.declared.slots.Slot.{Slot}
use Rattle.recall_hire.specs.Slots.{in_slot}
use Rattle.recall_hire.proofs.Seats.{one}

abbrev pub nobody : Slot
nobody = record { seats = 0; hint = 0 }

-- ---- slots where nobody is placed

pub nobody-in : (n i : ℕ) → get_or (replicate n nobody) i nobody ≡ nobody
nobody-in zero i = refl
nobody-in (suc n) zero = refl
nobody-in (suc n) (suc i) = nobody-in n i

-- ---- an arena's seats are of its slot

fewer-here : (a : ℕ) (o : Option ℕ) → one (is_just a) o ≤ one (in_slot (a % 1024)) o
fewer-here a None = omega arith
fewer-here a (Some b) =
    elim (cases_eq b a) [
      | inl same ↦ rw (eq-eqb (b % 1024) (a % 1024) (ap (λ x. x % 1024) same)) (at-most (eqb b a))
      | inr other ↦ rw (ne_eqb b a other) (omega arith)
    ]
  where
    at-most : (b : Bool) → cond b 1 0 ≤ 1
    at-most true = omega arith
    at-most false = omega arith

pub fewer : (a : ℕ) (seats : List (Option ℕ)) → count_by (is_just a) seats ≤ count_by (in_slot (a % 1024)) seats
fewer a [] = omega arith
fewer a (x ∷ xs) =
    let just : count_by (is_just a) (x ∷ xs) ≡ one (is_just a) x + count_by (is_just a) xs = sum_by-cons (one (is_just a)) x xs in
    let slot : count_by (in_slot (a % 1024)) (x ∷ xs) ≡ one (in_slot (a % 1024)) x + count_by (in_slot (a % 1024)) xs = sum_by-cons (one (in_slot (a % 1024))) x xs in
    omega (arith, fewer-here a x, fewer a xs)
