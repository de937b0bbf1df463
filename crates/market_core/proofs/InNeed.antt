-- The arena that a worker is needed at.
use Rattle.std.proofs.Common.{◌≡◌, ◌≢◌, ℕ, suc, ◌+◌, ◌-◌, ◌<◌, Bool, true, false, ltb, eqb, ◌≤◌, length, List, [], ◌∷◌, ◌++◌, Option, Some, None, refl, sym, ap, ◌∙◌, arith, inl, inr}
use Rattle.std.specs.List.{find}
use Rattle.std.specs.Option.{is_some, option_map, IfSome}
use Rattle.std.proofs.lemmas.Bool.{cases_eq, cases_Bool, eq-eqb, eqb-true, ne_eqb, lt-ltb, ltb-true}
use Rattle.std.proofs.lemmas.Option.{same_Some}
use Rattle.market_types.specs.State.{Arena, State}
use Rattle.market_types.specs.Claims.{is_mandated}
use Rattle.market_types.specs.Allotment.{active, allotment_of, at_level, bound_of, hire, in_order, limit_of, mandatory_pick}
use Rattle.allotment.specs.Levels.{number_of, pick_of, IsLeveled}
use Rattle.recall_hire.specs.Staffed.{first_in_need, need_among, need_of, rows_among, rows_of, searches}
use Rattle.market_core.specs.Visits.{searched}
use Rattle.market_core.proofs.Allotted.{allotment_of-picked, all_to_number, all_to-number}
use Rattle.market_core.proofs.Order.{levels_from, in_order-length}

-- ---- its row

-- the first row that has too few is that of the first arena that has
pub need-rows : (s : State) (arenas : List Arena) → first_in_need (rows_among s arenas) ≡ need_among s arenas
need-rows s [] = refl
need-rows s (a ∷ arenas) =
    elim (cases_Bool (ltb 0 (hire s a.number))) [
      | inl e ↦ rw e refl
      | inr e ↦ rw e (need-rows s arenas)
    ]

-- a row in need is looked at
pub searched-some : (s : State) (arenas : List Arena) (n : ℕ) → need_among s arenas ≡ Some n → 1 ≤ searches (rows_among s arenas)
searched-some s [] n e = cc
searched-some s (a ∷ arenas) n e =
    elim (cases_Bool (ltb 0 (hire s a.number))) [
      | inl short ↦
          elim (cases_Bool (eqb (allotment_of s a.number) 0)) [
            | inl t ↦ absurd (omega (arith, ltb-true 0 (hire s a.number) short, eqb-true (allotment_of s a.number) 0 t))
            | inr f ↦ rw (f, short) (omega arith)
          ]
      | inr full ↦
          let later : need_among s arenas ≡ Some n = rw full at e in
          let rest : 1 ≤ searches (rows_among s arenas) = searched-some s arenas n later in
          elim (cases_Bool (eqb (allotment_of s a.number) 0)) [
            | inl t ↦ rw t rest
            | inr f ↦ rw (f, full) (omega arith)
          ]
    ]

-- ---- level by level

need-front : (s : State) (xs ys : List Arena) (n : ℕ) → need_among s xs ≡ Some n → need_among s (xs ++ ys) ≡ Some n
need-front s [] ys n e = cc
need-front s (x ∷ xs) ys n e =
    elim (cases_Bool (ltb 0 (hire s x.number))) [
      | inl t ↦ let here : Some x.number ≡ Some n = rw t at e in rw t here
      | inr f ↦ let later : need_among s xs ≡ Some n = rw f at e in rw f (need-front s xs ys n later)
    ]

need-behind : (s : State) (xs ys : List Arena) → need_among s xs ≡ None → need_among s (xs ++ ys) ≡ need_among s ys
need-behind s [] ys e = refl
need-behind s (x ∷ xs) ys e =
    elim (cases_Bool (ltb 0 (hire s x.number))) [
      | inl t ↦ let here : Some x.number ≡ None = rw t at e in absurd (some-none x.number here)
      | inr f ↦ let later : need_among s xs ≡ None = rw f at e in rw f (need-behind s xs ys later)
    ]
  where
    some-none : (n : ℕ) → Some n ≡ None → ⊥
    some-none n h = cc

-- in the first of the levels, or after it
need-here : (s : State) (from n m k : ℕ) → m ≡ suc n → need_among s (at_level from s.arenas) ≡ Some k → need_among s (levels_from from m s.arenas) ≡ Some k
need-here s from n m k e h = rw e (need-front s (at_level from s.arenas) (levels_from (from + 1) n s.arenas) k h)

need-past : (s : State) (from n m : ℕ) → m ≡ suc n → need_among s (at_level from s.arenas) ≡ None → need_among s (levels_from from m s.arenas) ≡ need_among s (levels_from (from + 1) n s.arenas)
need-past s from n m e h = rw e (need-behind s (at_level from s.arenas) (levels_from (from + 1) n s.arenas) h)

pub need-found : (s : State) (from n m : ℕ) (o : Option ℕ) → m ≡ suc n → is_some o ≡ true → o ≡ need_among s (at_level from s.arenas) → o ≡ need_among s (levels_from from m s.arenas)
need-found s from n m None e yes_some f = cc
need-found s from n m (Some k) e yes_some f = sym (need-here s from n m k e (sym f))

pub need-later : (s : State) (from n m : ℕ) (o : Option ℕ) → m ≡ suc n → is_some o ≡ false → o ≡ need_among s (at_level from s.arenas) → need_among s (levels_from from m s.arenas) ≡ need_among s (levels_from (from + 1) n s.arenas)
need-later s from n m None e nobody f = need-past s from n m e (sym f)
need-later s from n m (Some k) e nobody f = cc

pub need-done : (s : State) (from m : ℕ) → m ≡ 0 → need_among s (levels_from from m s.arenas) ≡ None
need-done s from m e = rw e refl

-- ---- how many arenas are looked at

-- where one of the first is in need, none after it
searches-front : (s : State) (xs ys : List Arena) (n : ℕ) → need_among s xs ≡ Some n → searches (rows_among s (xs ++ ys)) ≡ searches (rows_among s xs)
searches-front s [] ys n e = cc
searches-front s (x ∷ xs) ys n e =
    elim (cases_Bool (ltb 0 (hire s x.number))) [
      | inl short ↦
          elim (cases_Bool (eqb (allotment_of s x.number) 0)) [
            | inl t ↦ absurd (omega (arith, ltb-true 0 (hire s x.number) short, eqb-true (allotment_of s x.number) 0 t))
            | inr f ↦ rw (f, short) refl
          ]
      | inr full ↦
          let later : need_among s xs ≡ Some n = rw full at e in
          let rest = searches-front s xs ys n later in
          elim (cases_Bool (eqb (allotment_of s x.number) 0)) [
            | inl t ↦ rw t rest
            | inr f ↦ rw (f, full) (ap (λ k. k + 1) rest)
          ]
    ]

-- else those after them too
searches-behind : (s : State) (xs ys : List Arena) → need_among s xs ≡ None → searches (rows_among s (xs ++ ys)) ≡ searches (rows_among s xs) + searches (rows_among s ys)
searches-behind s [] ys e = omega arith
searches-behind s (x ∷ xs) ys e =
    elim (cases_Bool (ltb 0 (hire s x.number))) [
      | inl short ↦ let here : Some x.number ≡ None = rw short at e in cc
      | inr full ↦
          let later : need_among s xs ≡ None = rw full at e in
          let rest = searches-behind s xs ys later in
          elim (cases_Bool (eqb (allotment_of s x.number) 0)) [
            | inl t ↦ rw t rest
            | inr f ↦ rw (f, full) (omega (arith, rest))
          ]
    ]

-- in the first of the levels, or after it
pub searches-found : (s : State) (from n m : ℕ) (o : Option ℕ) → m ≡ suc n → is_some o ≡ true → o ≡ need_among s (at_level from s.arenas) → searches (rows_among s (levels_from from m s.arenas)) ≡ searches (rows_among s (at_level from s.arenas))
searches-found s from n m None e yes_some f = cc
searches-found s from n m (Some k) e yes_some f = rw e (searches-front s (at_level from s.arenas) (levels_from (from + 1) n s.arenas) k (sym f))

pub searches-later : (s : State) (from n m : ℕ) (o : Option ℕ) → m ≡ suc n → is_some o ≡ false → o ≡ need_among s (at_level from s.arenas)
    → searches (rows_among s (levels_from from m s.arenas)) ≡ searches (rows_among s (at_level from s.arenas)) + searches (rows_among s (levels_from (from + 1) n s.arenas))
searches-later s from n m None e nobody f = rw e (searches-behind s (at_level from s.arenas) (levels_from (from + 1) n s.arenas) (sym f))
searches-later s from n m (Some k) e nobody f = cc

pub searches-done : (s : State) (from m : ℕ) → m ≡ 0 → searches (rows_among s (levels_from from m s.arenas)) ≡ 0
searches-done s from m e = rw e refl

-- a count that has all of them has enough
pub searched-within : (s : State) (v : ℕ) → searches (rows_of s) ≤ v → searched s ≤ v
searched-within s v h =
    elim (cases_Bool (eqb (limit_of s) 0)) [
      | inl t ↦ rw t (omega arith)
      | inr f ↦ rw f h
    ]

pub searched-nobody : (s : State) (v : ℕ) → limit_of s ≡ 0 → searched s ≤ v
searched-nobody s v none = rw (eq-eqb (limit_of s) 0 none) (omega arith)

-- ---- where no worker may be active

lacks : State → Arena → Bool
lacks s a = ltb 0 (hire s a.number)

find-nobody : (s : State) (xs : List Arena) → ((n : ℕ) → hire s n ≡ 0) → need_among s xs ≡ None
find-nobody s [] h = refl
find-nobody s (x ∷ xs) h =
    let none : ltb 0 (hire s x.number) ≡ false = ap (ltb 0) (h x.number) in
    rw none (find-nobody s xs h)

picked-allotment_of : (s : State) (n : ℕ) → limit_of s ≡ 0 → allotment_of s n ≡ all_to_number (pick_of s) (bound_of s) n
picked-allotment_of s n none = allotment_of-picked s n none ∙ all_to-number (mandatory_pick s) (bound_of s) n

pub need-unpicked : (s : State) → limit_of s ≡ 0 → pick_of s ≡ None → need_of s ≡ None
need-unpicked s none e =
    find-nobody s (in_order s) (λ n. let given : allotment_of s n ≡ 0 = picked-allotment_of s n none ∙ ap (λ o. all_to_number o (bound_of s) n) e in omega arith)

other-hires : (s : State) (picked n : ℕ) → limit_of s ≡ 0 → pick_of s ≡ Some picked → picked ≢ n → hire s n ≡ 0
other-hires s picked n none e m =
    let given : allotment_of s n ≡ 0 = picked-allotment_of s n none ∙ ap (λ o. all_to_number o (bound_of s) n) e ∙ rw (ne_eqb picked n m) refl in
    omega arith

own-hires : (s : State) (picked n : ℕ) → limit_of s ≡ 0 → pick_of s ≡ Some picked → picked ≡ n → hire s n ≡ bound_of s - active s picked
own-hires s picked n none e m =
    let given : allotment_of s n ≡ bound_of s = picked-allotment_of s n none ∙ ap (λ o. all_to_number o (bound_of s) n) e ∙ rw (eq-eqb picked n m) refl in
    let placed : active s n ≡ active s picked = ap (active s) (sym m) in
    omega arith

pub need-served : (s : State) (picked : ℕ) → limit_of s ≡ 0 → pick_of s ≡ Some picked → bound_of s - active s picked ≡ 0 → need_of s ≡ None
need-served s picked none e full =
    find-nobody s (in_order s) (λ n. elim (cases_eq picked n) [ inl m ↦ own-hires s picked n none e m ∙ full | inr m ↦ other-hires s picked n none e m ])

-- the arena with enqueued work is the first that lacks a worker
picked-among : (s : State) (picked : ℕ) (xs : List Arena) → ((n : ℕ) → picked ≡ n → 0 < hire s n) → ((n : ℕ) → picked ≢ n → hire s n ≡ 0)
    → number_of (find (λ (a : Arena). is_mandated a.claim) xs) ≡ Some picked → need_among s xs ≡ Some picked
picked-among s picked [] yes_here no_other e = cc
picked-among s picked (x ∷ xs) yes_here no_other e =
    elim (cases_eq picked x.number) [
      | inl m ↦ rw (lt-ltb 0 (hire s x.number) (yes_here x.number m)) (ap Some (sym m))
      | inr m ↦
          let none : ltb 0 (hire s x.number) ≡ false = ap (ltb 0) (no_other x.number m) in
          elim (cases_Bool (is_mandated x.claim)) [
            | inl t ↦ let found : Some x.number ≡ Some picked = rw t at e in absurd (m (sym (same_Some x.number picked found)))
            | inr f ↦ let later : number_of (find (λ (a : Arena). is_mandated a.claim) xs) ≡ Some picked = rw f at e in rw none (picked-among s picked xs yes_here no_other later)
          ]
    ]

pub need-picked : (s : State) (picked : ℕ) → limit_of s ≡ 0 → pick_of s ≡ Some picked → 0 < bound_of s - active s picked → need_of s ≡ Some picked
need-picked s picked none e some =
    picked-among s picked (in_order s) (λ n m. omega (arith, own-hires s picked n none e m, some)) (λ n m. other-hires s picked n none e m) e

-- ---- what the search enters

found-by-number : (p : Arena → Bool) (arenas : List Arena) (n : ℕ) → option_map (λ (a : Arena). a.number) (find p arenas) ≡ Some n → 0 < length arenas
found-by-number p [] n e = cc
found-by-number p (a ∷ arenas) n e = omega arith

need-some : (s : State) (n : ℕ) → IsLeveled s → need_of s ≡ Some n → 0 < length s.arenas
need-some s n leveled e = omega (arith, in_order-length s leveled, found-by-number (λ (a : Arena). ltb 0 (hire s a.number)) (in_order s) n e)

-- an arena in need is one of the market's
pub needed-entered : (s : State) (o : Option ℕ) (v : ℕ) → IsLeveled s → o ≡ need_of s → (0 < length s.arenas → 1 ≤ v) → IfSome o (λ _. 1 ≤ v)
needed-entered s None v leveled e f = tt
needed-entered s (Some n) v leveled e f = f (need-some s n leveled (sym e))

-- a count that has every row that was looked at counts the arena that was found
pub found-some : (s : State) (arenas : List Arena) (o : Option ℕ) (v : ℕ) → o ≡ need_among s arenas → searches (rows_among s arenas) ≤ v → IfSome o (λ _. 1 ≤ v)
found-some s arenas None v e h = tt
found-some s arenas (Some n) v e h = omega (arith, searched-some s arenas n (sym e))
