-- How many workers an arena has after one was placed or recalled.
use Rattle.std.proofs.Common.{◌≡◌, ℕ, zero, suc, ◌+◌, ◌<◌, ◌≤◌, Bool, true, false, cond, ltb, List, [], ◌∷◌, get_or, set, Option, Some, None, refl, ap, ◌∙◌, arith, inl, inr}
use Rattle.std.specs.Prelude.{slice_get, unwrap_or}
use Rattle.std.specs.List.{find, count_by}
use Rattle.std.specs.Option.{option_map}
use Rattle.std.proofs.lemmas.Bool.{cases_Bool, cond_both, ltb-true, eq-eqb}
use Rattle.std.proofs.lemmas.List.Sums.{sum_by-cons, sum_by-set}
use Rattle.std.proofs.lemmas.Option.{same_Some, slice_get_within, get_or_from_slice_get}
use Rattle.market_types.specs.declared.command.Cmd.{Cmd}
use Rattle.market_types.specs.declared.command.Cmd.TheVariants.{Join, Stay, Leave}
use Rattle.market_types.specs.declared.reply.Reply.{Reply}
use Rattle.market_types.specs.declared.reply.Reply.TheVariants.{Placed, Recalled, Stays}
use Rattle.market_types.specs.State.{Arena, State}
use Rattle.market_types.specs.Allotment.{active, allotment_of, hire, in_order, is_just, need, recall}
use Rattle.market_types.specs.Step.{Outcome, place_of, with_place, join_at, join_from, stay_from, leave_from, step}
use Rattle.recall_hire.specs.Staffed.{need_of}
use Rattle.market_core.specs.Allotted.{IsStaffed}
use Rattle.market_core.specs.Moves.{moves}
use Rattle.market_core.proofs.Moved.{quiet}
use Rattle.market_core.proofs.Totals.{cond-most}

find-passes : (p : Arena → Bool) (xs : List Arena) (n : ℕ) → option_map (λ (a : Arena). a.number) (find p xs) ≡ Some n → (a : Arena) × (p a ≡ true) × (a.number ≡ n)
find-passes p [] n e = absurd (none-some n e)
  where
    none-some : (n : ℕ) → ◌≡◌ {A = Option ℕ} None (Some n) → ⊥
    none-some n e = cc
find-passes p (x ∷ xs) n e =
    elim (cases_Bool (p x)) [
      | inl t ↦
          let found : Some x.number ≡ Some n = rw t at e in
          (x, t, same_Some x.number n found)
      | inr f ↦ find-passes p xs n (rw f at e)
    ]

-- an arena in need lacks a worker
need-lacks : (s : State) (n : ℕ) → need_of s ≡ Some n → active s n < allotment_of s n
need-lacks s n e =
    let found = find-passes (λ (a : Arena). ltb 0 (hire s a.number)) (in_order s) n e in
    let lacking : 0 < hire s found.0.number = ltb-true 0 (hire s found.0.number) found.1 in
    let here : 0 < hire s n = rw (← found.2) lacking in
    omega arith

-- one seat that is written counts one more at most
placed-one : (n seat : ℕ) (place : Option ℕ) (seats : List (Option ℕ)) → count_by (is_just n) (set seats seat place) ≤ count_by (is_just n) seats + 1
placed-one n seat place [] = omega arith
placed-one n zero place (x ∷ seats) =
    let f : Option ℕ → ℕ = λ o. cond (is_just n o) 1 0 in
    omega (arith, sum_by-cons f place seats, sum_by-cons f x seats, cond-most (is_just n place))
placed-one n (suc seat) place (x ∷ seats) =
    let f : Option ℕ → ℕ = λ o. cond (is_just n o) 1 0 in
    omega (arith, sum_by-cons f x (set seats seat place), sum_by-cons f x seats, placed-one n seat place seats)

-- a seat that was placed there counts one less when it is not
pub unplaced-one : (n seat : ℕ) (seats : List (Option ℕ)) → slice_get seats seat ≡ Some (Some n) → count_by (is_just n) (set seats seat None) + 1 ≡ count_by (is_just n) seats
unplaced-one n seat seats e =
    let f : Option ℕ → ℕ = λ o. cond (is_just n o) 1 0 in
    let within = slice_get_within seats seat (Some n) e in
    let sums = sum_by-set f seats seat None None within in
    let old : f (get_or seats seat None) ≡ 1 = ap f (get_or_from_slice_get seats seat (Some n) None e) ∙ rw (eq-eqb n n refl) refl in
    omega (arith, sums, old)

-- ---- after a command

-- a reply that neither places nor recalls says nothing of an arena's workers
quiet-staffed : (r : Reply) (s : State) → moves r ≡ false → IsStaffed r s
quiet-staffed (Placed a) s e = absurd (let f : true ≡ false = e in cc)
quiet-staffed (Recalled a) s e = absurd (let f : true ≡ false = e in cc)
quiet-staffed _ s e = tt

joined : (s : State) (seat : ℕ) (o : Option Arena) → need s ≡ o → IsStaffed (join_at s seat o).0 (join_at s seat o).1
joined s seat None e = tt
joined s seat (Some a) e =
    let n = a.number in
    let lacking : active s n < allotment_of s n = need-lacks s n (ap (option_map (λ (b : Arena). b.number)) e) in
    let most : active (with_place s seat (Some n)) n ≤ active s n + 1 = placed-one n seat (Some n) s.seats in
    omega arith

join-staffed : (s : State) (seat : ℕ) (place : Option ℕ) → IsStaffed (join_from s seat place).0 (join_from s seat place).1
join-staffed s seat None = joined s seat (need s) refl
join-staffed s seat (Some a) = tt

placed-at : (o : Option (Option ℕ)) (a : ℕ) → unwrap_or o None ≡ Some a → o ≡ Some (Some a)
placed-at None a e = cc
placed-at (Some p) a e = ap Some e

stay-staffed : (s : State) (seat : ℕ) (place : Option ℕ) → place_of s seat ≡ place → IsStaffed (stay_from s seat place).0 (stay_from s seat place).1
stay-staffed s seat None e = tt
stay-staffed s seat (Some a) e =
    cond_both (ltb 0 (recall s a)) (Recalled a, with_place s seat None) (Stays a, s) (λ (o : Outcome). IsStaffed o.0 o.1)
    (λ t.
    let many : 0 < recall s a = ltb-true 0 (recall s a) t in
    let fewer : active (with_place s seat None) a + 1 ≡ active s a = unplaced-one a seat s.seats (placed-at (slice_get s.seats seat) a e) in
    omega arith)
    (λ _. tt)

leave-staffed : (s : State) (seat : ℕ) (place : Option ℕ) → IsStaffed (leave_from s seat place).0 (leave_from s seat place).1
leave-staffed s seat None = tt
leave-staffed s seat (Some a) = tt

pub staffed : (s : State) (seat : ℕ) (cmd : Cmd) → IsStaffed (step s seat cmd).0 (step s seat cmd).1
staffed s seat Join = join-staffed s seat (place_of s seat)
staffed s seat Stay = stay-staffed s seat (place_of s seat) refl
staffed s seat Leave = leave-staffed s seat (place_of s seat)
staffed s seat cmd = quiet-staffed (step s seat cmd).0 (step s seat cmd).1 (quiet s seat cmd refl).quiet
