-- What a step leaves of a market: all arenas but the one that it is about, that each number stands once, and what levels give.
use Rattle.std.specs.Prelude.{◌==◌, ◌||◌, nat_le, nat_lt, slice_get, slice_set, unwrap_or}
use Rattle.std.specs.List.{All, count_by, filter, list_any}
use Rattle.std.proofs.Common.{◌≡◌, ℕ, zero, suc, ◌+◌, ◌*◌, ◌/◌, ◌%◌, ◌<◌, ◌≤◌, Bool, true, false, true≢false, cond, eqb, not, List, [], ◌∷◌, ◌++◌, length, Option, Some, None, Result, Ok, Err, ℤ, refl, sym, ap, ◌∙◌, subst, arith, inl, inr}
use Rattle.std.proofs.lemmas.Bool.{cases_Bool}
use Rattle.std.proofs.lemmas.Bool.Decides.{nat_tests}
use Rattle.std.proofs.lemmas.List.Elements.{All-cons, All-head, All-nil, All-tail}
use Rattle.std.proofs.lemmas.List.Sums.{sum_by-cons}
use Rattle.market_types.specs.declared.command.Cmd.{Cmd}
use Rattle.market_types.specs.declared.command.Cmd.TheVariants.{Open, Close, Priority, Resize, Request, Control, Uncontrol, Join, Stay, Leave, Show, Lists, Limit}
use Rattle.market_types.specs.declared.reply.Fault.{Fault}
use Rattle.market_types.specs.declared.reply.Fault.TheVariants.{BadLevel, TooManyArenas, OutOfNumbers, Busy, BadValue, TooManyControls, NoControl}
use Rattle.market_types.specs.declared.reply.Reply.{Reply}
use Rattle.market_types.specs.declared.reply.Reply.TheVariants.{Controlled, Uncontrolled, Recalled, Stays, Left}
use Rattle.market_types.specs.Claims.{new_claim, with_slots, added_claim, request_of}
use Rattle.market_types.specs.State.{Claim, Arena, Control as Living, State}
use Rattle.market_types.specs.Allotment.{active, at_level, carried, carry_past, count_at, is_just, need, recall, share_of, total_request}
use Rattle.market_types.specs.Step.{Outcome, arena_at, close_step, control_step, if_arena, if_claim, join_at, join_from, leave_from, moved, open_step, opened, place_of, priority_step, refuse, request_step, resize_step, show_step, stay_from, step, uncontrol_step, with_claim, with_place, without}
use Rattle.market_core.specs.Ahead.{asked_ahead}
use Rattle.journal_chart.specs.Steps.{keeps_order, subject}
use Rattle.journal_chart.proofs.Ahead.{Ahead, Follows, Nearly, Within, ahead-claim, ahead-cons, ahead-gone, ahead-nearly, ahead-other, ahead-self, asks-cons, nearly-ahead, nearly-moved, without-fewer}
use Rattle.journal_chart.proofs.Bounds.{Missing, Once}

-- ---- lists of arenas

-- each number stands once, has been given, and stands at one of the market's levels
pub record Fine (s : State) : Type 0 where
  pub once : Once s.arenas
  pub given : All (λ (a : Arena). a.number < s.next_arena) s.arenas
  pub leveled : All (λ (a : Arena). a.level ≤ s.levels) s.arenas

missing-tail : (n : ℕ) (x : Arena) (xs : List Arena) → Missing n (x ∷ xs) → (eqb x.number n ≡ false) × Missing n xs
missing-tail n x xs none =
    elim (cases_Bool (eqb x.number n)) [
      | inl here ↦ let is : Some x ≡ None = rw here at none in absurd (cc)
      | inr not ↦ (not, rw not at none)
    ]

-- the claim of another arena is another
claim-other : (a b : ℕ) (claim : Claim) (xs : List Arena) → eqb b a ≡ false → arena_at a (with_claim b claim xs) ≡ arena_at a xs
claim-other a b claim [] apart = refl
claim-other a b claim (x ∷ xs) apart =
    elim (cases_Bool (eqb x.number b)) [
      | inl here ↦
          let is : x.number ≡ b = grind (arith, nat_tests) in
          let other : eqb x.number a ≡ false = ap (λ n. eqb n a) is ∙ apart in
          rw (here, other) (claim-other a b claim xs apart)
      | inr not ↦ rw not (ap (λ o. cond (eqb x.number a) (Some x) o) (claim-other a b claim xs apart))
    ]

claim-missing : (a b : ℕ) (claim : Claim) (xs : List Arena) → Missing a xs → Missing a (with_claim b claim xs)
claim-missing a b claim [] none = refl
claim-missing a b claim (x ∷ xs) none =
    let h = missing-tail a x xs none in
    elim (cases_Bool (eqb x.number b)) [
      | inl here ↦ rw (here, h.0) (claim-missing a b claim xs h.1)
      | inr not ↦ rw (not, h.0) (claim-missing a b claim xs h.1)
    ]

claim-once : (b : ℕ) (claim : Claim) (xs : List Arena) → Once xs → Once (with_claim b claim xs)
claim-once b claim [] once = once
claim-once b claim (x ∷ xs) once =
    elim (cases_Bool (eqb x.number b)) [
      | inl here ↦ rw here (claim-missing x.number b claim xs once.0, claim-once b claim xs once.1)
      | inr not ↦ rw not (claim-missing x.number b claim xs once.0, claim-once b claim xs once.1)
    ]

claim-all : (P : Arena → Type 0) (b : ℕ) (claim : Claim) (xs : List Arena) → ((x : Arena) → P x → P (record x { claim = claim })) → All P xs → All P (with_claim b claim xs)
claim-all P b claim [] keeps all = All-nil P
claim-all P b claim (x ∷ xs) keeps all =
    let first : P x = All-head P x xs all in
    All-cons P (cond (eqb x.number b) (record x { claim = claim }) x) (with_claim b claim xs) (either P (eqb x.number b) (record x { claim = claim }) x (keeps x first) first)
    (claim-all P b claim xs keeps (All-tail P x xs all))
  where
    either : (P : Arena → Type 0) (c : Bool) (y z : Arena) → P y → P z → P (cond c y z)
    either P true y z h k = h
    either P false y z h k = k

without-other : (a b : ℕ) (xs : List Arena) → eqb b a ≡ false → arena_at a (without b xs) ≡ arena_at a xs
without-other a b [] apart = refl
without-other a b (x ∷ xs) apart =
    elim (cases_Bool (eqb x.number b)) [
      | inl here ↦
          let is : x.number ≡ b = grind (arith, nat_tests) in
          let other : eqb x.number a ≡ false = ap (λ n. eqb n a) is ∙ apart in
          rw (here, other) (without-other a b xs apart)
      | inr not ↦ rw not (ap (λ o. cond (eqb x.number a) (Some x) o) (without-other a b xs apart))
    ]

without-missing : (a b : ℕ) (xs : List Arena) → Missing a xs → Missing a (without b xs)
without-missing a b [] none = refl
without-missing a b (x ∷ xs) none =
    let h = missing-tail a x xs none in
    elim (cases_Bool (eqb x.number b)) [
      | inl here ↦ rw here (without-missing a b xs h.1)
      | inr not ↦ rw not (rw h.0 (without-missing a b xs h.1))
    ]

without-itself : (b : ℕ) (xs : List Arena) → Missing b (without b xs)
without-itself b [] = refl
without-itself b (x ∷ xs) =
    elim (cases_Bool (eqb x.number b)) [
      | inl here ↦ rw here (without-itself b xs)
      | inr not ↦ rw not (rw not (without-itself b xs))
    ]

without-once : (b : ℕ) (xs : List Arena) → Once xs → Once (without b xs)
without-once b [] once = once
without-once b (x ∷ xs) once =
    elim (cases_Bool (eqb x.number b)) [
      | inl here ↦ rw here (without-once b xs once.1)
      | inr not ↦ rw not (without-missing x.number b xs once.0, without-once b xs once.1)
    ]

without-all : (P : Arena → Type 0) (b : ℕ) (xs : List Arena) → All P xs → All P (without b xs)
without-all P b [] all = All-nil P
without-all P b (x ∷ xs) all =
    elim (cases_Bool (eqb x.number b)) [
      | inl here ↦ rw here (without-all P b xs (All-tail P x xs all))
      | inr not ↦ rw not (All-cons P x (without b xs) (All-head P x xs all) (without-all P b xs (All-tail P x xs all)))
    ]

-- numbers that are all smaller are others
fresh : (n : ℕ) (xs : List Arena) → All (λ (a : Arena). a.number < n) xs → Missing n xs
fresh n [] all = refl
fresh n (x ∷ xs) all =
    let less : x.number < n = All-head (λ (a : Arena). a.number < n) x xs all in
    let other : eqb x.number n ≡ false = grind (arith, nat_tests) in
    rw other (fresh n xs (All-tail (λ (a : Arena). a.number < n) x xs all))

wider : (n m : ℕ) (xs : List Arena) → n ≤ m → All (λ (a : Arena). a.number < n) xs → All (λ (a : Arena). a.number < m) xs
wider n m [] more all = All-nil (λ (a : Arena). a.number < m)
wider n m (x ∷ xs) more all =
    let P : Arena → Type 0 = λ (a : Arena). a.number < n in
    let less : x.number < n = All-head P x xs all in
    All-cons (λ (a : Arena). a.number < m) x xs (omega arith) (wider n m xs more (All-tail P x xs all))

pub found-within : (P : Arena → Type 0) (b : ℕ) (xs : List Arena) (x : Arena) → arena_at b xs ≡ Some x → All P xs → P x
found-within P b [] x found all = absurd (cc)
found-within P b (y ∷ ys) x found all =
    elim (cases_Bool (eqb y.number b)) [
      | inl here ↦
          let is : Some y ≡ Some x = rw here at found in
          let same : y ≡ x = cc in
          subst P same (All-head P y ys all)
      | inr not ↦ found-within P b ys x (rw not at found) (All-tail P y ys all)
    ]

pub found-number : (b : ℕ) (xs : List Arena) (x : Arena) → arena_at b xs ≡ Some x → x.number ≡ b
found-number b [] x found = absurd (cc)
found-number b (y ∷ ys) x found =
    elim (cases_Bool (eqb y.number b)) [
      | inl here ↦
          let is : Some y ≡ Some x = rw here at found in
          let same : y ≡ x = cc in
          let number : y.number ≡ b = grind (arith, nat_tests) in
          sym (ap (λ (z : Arena). z.number) same) ∙ number
      | inr not ↦ found-number b ys x (rw not at found)
    ]

-- ---- what is left of a level that asks for what it did

-- each level that asks for what it did gives an arena what it gave it, if it is given the same
abbrev pub Steady : ℕ → List Arena → List Arena → Type 0
Steady a xs ys =
    (K D : ℕ → ℕ) (level c : ℕ) → total_request (at_level level ys) ≡ total_request (at_level level xs)
    → count_at a (carried K D c (at_level level ys)) ≡ count_at a (carried K D c (at_level level xs))

steady-self : (a : ℕ) (xs : List Arena) → Steady a xs xs
steady-self a xs K D level c same = refl

turned : (a : ℕ) (xs ys : List Arena) → Steady a xs ys → Steady a ys xs
turned a xs ys steady K D level c same = sym (steady K D level c (sym same))

-- the first arena is the same
steady-cons : (a : ℕ) (x : Arena) (xs ys : List Arena) → Steady a xs ys → Steady a (x ∷ xs) (x ∷ ys)
steady-cons a x xs ys steady K D level c same =
    elim (cases_Bool (eqb x.level level)) [
      | inl own ↦
          let all : total_request (x ∷ at_level level ys) ≡ total_request (x ∷ at_level level xs) = rw own at same in
          let rest : total_request (at_level level ys) ≡ total_request (at_level level xs) = omega (arith, all, asks-cons x (at_level level ys), asks-cons x (at_level level xs)) in
          rw own (ap (cond (eqb x.number a) (share_of K D c x)) (steady K D level (carry_past K D c x) rest))
      | inr other ↦ rw other (steady K D level c (rw other at same))
    ]

-- the first arena has another claim
steady-claim : (a : ℕ) (x : Arena) (claim : Claim) (xs : List Arena) → Steady a (x ∷ xs) (record x { claim = claim } ∷ xs)
steady-claim a x claim xs K D level c same =
    elim (cases_Bool (eqb x.level level)) [
      | inl own ↦
          let y : Arena = record x { claim = claim } in
          let rest : List Arena = at_level level xs in
          let all : total_request (y ∷ rest) ≡ total_request (x ∷ rest) = rw own at same in
          let asks : request_of claim ≡ request_of x.claim = omega (arith, all, asks-cons y rest, asks-cons x rest) in
          rw own (λ i.
          cond (eqb x.number a) (cond (eqb (asks i) 0) 0 ((asks i * K x.level + c) / D x.level))
          (count_at a (carried K D (cond (eqb (asks i) 0) c ((asks i * K x.level + c) % D x.level)) rest)))
      | inr other ↦ rw other refl
    ]

-- another arena comes first
steady-other : (a : ℕ) (x : Arena) (xs : List Arena) → eqb x.number a ≡ false → Steady a xs (x ∷ xs)
steady-other a x xs apart K D level c same =
    elim (cases_Bool (eqb x.level level)) [
      | inl own ↦
          let rest : List Arena = at_level level xs in
          let all : total_request (x ∷ rest) ≡ total_request rest = rw own at same in
          let zero_ : request_of x.claim ≡ 0 = omega (arith, all, asks-cons x rest) in
          let none : eqb (request_of x.claim) 0 ≡ true = grind (arith, nat_tests) in
          rw own (rw (apart, none) refl)
      | inr other ↦ rw other refl
    ]

claim-absent : (b : ℕ) (claim : Claim) (xs : List Arena) → Missing b xs → with_claim b claim xs ≡ xs
claim-absent b claim [] none = refl
claim-absent b claim (x ∷ xs) none = let h = missing-tail b x xs none in rw h.0 (ap (λ ys. x ∷ ys) (claim-absent b claim xs h.1))

without-absent : (b : ℕ) (xs : List Arena) → Missing b xs → without b xs ≡ xs
without-absent b [] none = refl
without-absent b (x ∷ xs) none = let h = missing-tail b x xs none in rw h.0 (ap (λ ys. x ∷ ys) (without-absent b xs h.1))

claim-steady : (a b : ℕ) (claim : Claim) (xs : List Arena) → Once xs → Steady a xs (with_claim b claim xs)
claim-steady a b claim [] once = steady-self a []
claim-steady a b claim (x ∷ xs) once =
    elim (cases_Bool (eqb x.number b)) [
      | inl here ↦
          let is : x.number ≡ b = grind (arith, nat_tests) in
          let absent : Missing b xs = subst (λ n. Missing n xs) is once.0 in
          rw here (subst (λ ys. Steady a (x ∷ xs) (record x { claim = claim } ∷ ys)) (sym (claim-absent b claim xs absent)) (steady-claim a x claim xs))
      | inr not ↦ rw not (steady-cons a x xs (with_claim b claim xs) (claim-steady a b claim xs once.1))
    ]

without-steady : (a b : ℕ) (xs : List Arena) → eqb b a ≡ false → Once xs → Steady a xs (without b xs)
without-steady a b [] apart once = steady-self a []
without-steady a b (x ∷ xs) apart once =
    elim (cases_Bool (eqb x.number b)) [
      | inl here ↦
          let is : x.number ≡ b = grind (arith, nat_tests) in
          let absent : Missing b xs = subst (λ n. Missing n xs) is once.0 in
          let other : eqb x.number a ≡ false = ap (λ n. eqb n a) is ∙ apart in
          rw here (subst (Steady a (x ∷ xs)) (sym (without-absent b xs absent)) (turned a xs (x ∷ xs) (steady-other a x xs other)))
      | inr not ↦ rw not (steady-cons a x xs (without b xs) (without-steady a b xs apart once.1))
    ]

-- ---- what stands before an arena

-- an arena has another claim
claim-ahead : (a b : ℕ) (claim : Claim) (xs : List Arena) → Once xs → Ahead a xs (with_claim b claim xs)
claim-ahead a b claim [] once = ahead-self a []
claim-ahead a b claim (x ∷ xs) once =
    elim (cases_Bool (eqb x.number b)) [
      | inl here ↦
          let is : x.number ≡ b = grind (arith, nat_tests) in
          let absent : Missing b xs = subst (λ n. Missing n xs) is once.0 in
          rw here (subst (λ ys. Ahead a (x ∷ xs) (record x { claim = claim } ∷ ys)) (sym (claim-absent b claim xs absent)) (ahead-claim a x claim xs))
      | inr not ↦ rw not (ahead-cons a x xs (with_claim b claim xs) (claim-ahead a b claim xs once.1))
    ]

-- another arena goes away
without-ahead : (a b : ℕ) (xs : List Arena) → eqb b a ≡ false → Once xs → Ahead a xs (without b xs)
without-ahead a b [] apart once = ahead-self a []
without-ahead a b (x ∷ xs) apart once =
    elim (cases_Bool (eqb x.number b)) [
      | inl here ↦
          let is : x.number ≡ b = grind (arith, nat_tests) in
          let absent : Missing b xs = subst (λ n. Missing n xs) is once.0 in
          let other : eqb x.number a ≡ false = ap (λ n. eqb n a) is ∙ apart in
          rw here (subst (Ahead a (x ∷ xs)) (sym (without-absent b xs absent)) (ahead-gone a x xs other))
      | inr not ↦ rw not (ahead-cons a x xs (without b xs) (without-ahead a b xs apart once.1))
    ]

-- ---- seats

-- a seat that comes from elsewhere, or goes elsewhere, is not counted
count-elsewhere : (a seat : ℕ) (place : Option ℕ) (seats : List (Option ℕ)) → is_just a (unwrap_or (slice_get seats seat) None) ≡ false → is_just a place ≡ false
    → count_by (is_just a) (slice_set seats seat place) ≡ count_by (is_just a) seats
count-elsewhere a seat place [] was is = refl
count-elsewhere a zero place (x ∷ seats) was is =
    let f : Option ℕ → ℕ = λ o. cond (is_just a o) 1 0 in
    let old : f x ≡ 0 = ap (λ b. cond b 1 0) was in
    let new : f place ≡ 0 = ap (λ b. cond b 1 0) is in
    omega (arith, sum_by-cons f place seats, sum_by-cons f x seats, old, new)
count-elsewhere a (suc seat) place (x ∷ seats) was is =
    let f : Option ℕ → ℕ = λ o. cond (is_just a o) 1 0 in
    omega (arith, sum_by-cons f x (slice_set seats seat place), sum_by-cons f x seats, count-elsewhere a seat place seats was is)

-- ---- the commands

-- an arena is as it was, and has as many seats
pub record Stands (s t : State) (a : ℕ) : Type 0 where
  pub arena : arena_at a t.arenas ≡ arena_at a s.arenas
  pub active : active t a ≡ active s a

-- what an outcome leaves
record Kept (s : State) (a : ℕ) (cmd : Cmd) (o : Outcome) : Type 0 where
  apart : is_just a (subject cmd o.0) ≡ false → Stands s o.1 a
  fine : Fine s → Fine o.1
  steady : is_just a (subject cmd o.0) ≡ false → keeps_order cmd ≡ true → Once s.arenas → Steady a s.arenas o.1.arenas
  ahead : is_just a (subject cmd o.0) ≡ false → Once s.arenas → Nearly (keeps_order cmd) a s.arenas o.1.arenas

refused : (s : State) (a : ℕ) (cmd : Cmd) (r : Reply) → Kept s a cmd (r, s)
refused s a cmd r =
    record {
      apart = λ other. record { arena = refl; active = refl };
      fine = λ h. h;
      steady = λ other ordered once. steady-self a s.arenas;
      ahead = λ other once. nearly-ahead (keeps_order cmd) a s.arenas s.arenas (ahead-self a s.arenas);
    }

kept-if : (s : State) (a : ℕ) (cmd : Cmd) (b : Bool) (x y : Outcome) → Kept s a cmd x → Kept s a cmd y → Kept s a cmd (cond b x y)
kept-if s a cmd true x y h k = h
kept-if s a cmd false x y h k = k

-- the level is one of the market's
level-if : (s : State) (a : ℕ) (cmd : Cmd) (level : ℕ) (y : Outcome) → (level ≤ s.levels → Kept s a cmd y) → Kept s a cmd (cond (nat_lt s.levels level) (refuse s BadLevel) y)
level-if s a cmd level y h =
    elim (cases_Bool (nat_lt s.levels level)) [
      | inl high ↦ rw high (refused s a cmd _)
      | inr low ↦ let within : level ≤ s.levels = grind (arith, nat_tests) in rw low (h within)
    ]

kept-claim : (s : State) (a : ℕ) (cmd : Cmd) (r : Result Claim Fault) (f : Claim → Outcome) → ((c : Claim) → Kept s a cmd (f c)) → Kept s a cmd (if_claim s r f)
kept-claim s a cmd (Err fault) f h = refused s a cmd _
kept-claim s a cmd (Ok c) f h = h c

kept-arena : (s : State) (a : ℕ) (cmd : Cmd) (b : ℕ) (o : Option Arena) (f : Arena → Outcome) → arena_at b s.arenas ≡ o
    → ((x : Arena) → arena_at b s.arenas ≡ Some x → Kept s a cmd (f x)) → Kept s a cmd (if_arena s o f)
kept-arena s a cmd b None f found h = refused s a cmd _
kept-arena s a cmd b (Some x) f found h = h x found

-- a seat goes from one place to another, neither of which is the arena
seat-kept : (s : State) (a seat : ℕ) (cmd : Cmd) (place : Option ℕ) (r : Reply)
    → (is_just a (subject cmd r) ≡ false → (is_just a (place_of s seat) ≡ false) × (is_just a place ≡ false)) → Kept s a cmd (r, with_place s seat place)
seat-kept s a seat cmd place r elsewhere =
    record {
      apart = λ other. record { arena = refl; active = count-elsewhere a seat place s.seats (elsewhere other).0 (elsewhere other).1 };
      fine = λ h. record { once = h.once; given = h.given; leveled = h.leveled };
      steady = λ other ordered once. steady-self a s.arenas;
      ahead = λ other once. nearly-ahead (keeps_order cmd) a s.arenas s.arenas (ahead-self a s.arenas);
    }

join_at-kept : (s : State) (a seat : ℕ) (o : Option Arena) → place_of s seat ≡ None → Kept s a Join (join_at s seat o)
join_at-kept s a seat None free = refused s a Join _
join_at-kept s a seat (Some x) free = seat-kept s a seat Join _ _ (λ other. (ap (is_just a) free, other))

join-kept : (s : State) (a seat : ℕ) (p : Option ℕ) → place_of s seat ≡ p → Kept s a Join (join_from s seat p)
join-kept s a seat None is = join_at-kept s a seat (need s) is
join-kept s a seat (Some b) is = refused s a Join _

stay-kept : (s : State) (a seat : ℕ) (p : Option ℕ) → place_of s seat ≡ p → Kept s a Stay (stay_from s seat p)
stay-kept s a seat None is = refused s a Stay _
stay-kept s a seat (Some b) is =
    kept-if s a Stay (nat_lt 0 (recall s b)) (Recalled b, with_place s seat None) (Stays b, s)
    (seat-kept s a seat Stay None (Recalled b) (λ other. (ap (is_just a) is ∙ other, refl))) (refused s a Stay _)

leave-kept : (s : State) (a seat : ℕ) (p : Option ℕ) → place_of s seat ≡ p → Kept s a Leave (leave_from s seat p)
leave-kept s a seat None is = refused s a Leave _
leave-kept s a seat (Some b) is = seat-kept s a seat Leave None (Left b) (λ other. (ap (is_just a) is ∙ other, refl))

opened-kept : (s : State) (a slots reserved level : ℕ) (claim : Claim) → level ≤ s.levels → Kept s a (Open slots reserved level) (opened s level claim)
opened-kept s a slots reserved level claim within =
    record {
      apart = λ other. record { arena = rw other refl; active = refl };
      fine = λ h.
          let x : Arena = record { number = s.next_arena; stamp = s.next_stamp; level = level; claim = claim } in
          record {
            once = (fresh s.next_arena s.arenas h.given, h.once);
            given = All-cons (λ (b : Arena). b.number < s.next_arena + 1) x s.arenas (omega arith) (wider s.next_arena (s.next_arena + 1) s.arenas (omega arith) h.given);
            leveled = All-cons (λ (b : Arena). b.level ≤ s.levels) x s.arenas within h.leveled;
          };
      steady = λ other ordered once. steady-other a (record { number = s.next_arena; stamp = s.next_stamp; level = level; claim = claim }) s.arenas other;
      ahead = λ other once.
          let x : Arena = record { number = s.next_arena; stamp = s.next_stamp; level = level; claim = claim } in
          nearly-ahead true a s.arenas (x ∷ s.arenas) (ahead-other a x s.arenas other);
    }

open-kept : (s : State) (a slots reserved level : ℕ) → Kept s a (Open slots reserved level) (open_step s slots reserved level)
open-kept s a slots reserved level =
    kept-claim s a (Open slots reserved level) (new_claim slots reserved) _ (λ claim.
    level-if s a (Open slots reserved level) level _ (λ within.
    kept-if s a (Open slots reserved level) (nat_le 1024 (length s.arenas)) (refuse s TooManyArenas) _ (refused s a _ _)
    (kept-if s a (Open slots reserved level) (nat_lt s.last s.next_arena || nat_lt s.last s.next_stamp) (refuse s OutOfNumbers) (opened s level claim) (refused s a _ _)
    (opened-kept s a slots reserved level claim within))))

close-kept : (s : State) (a b : ℕ) → Kept s a (Close b) (close_step s b)
close-kept s a b =
    kept-arena s a (Close b) b (arena_at b s.arenas) _ refl (λ x found.
    kept-if s a (Close b) (nat_lt 0 (active s b)) (refuse s (Busy (active s b))) _ (refused s a _ _) (record {
      apart = λ other. record { arena = without-other a b s.arenas other; active = refl };
      fine = λ h. record { once = without-once b s.arenas h.once; given = without-all (λ (c : Arena). c.number < s.next_arena) b s.arenas h.given; leveled = without-all (λ (c : Arena). c.level ≤ s.levels) b s.arenas h.leveled };
      steady = λ other ordered once. without-steady a b s.arenas other once;
      ahead = λ other once. nearly-ahead true a s.arenas (without b s.arenas) (without-ahead a b s.arenas other once);
    }))

moved-kept : (s : State) (a b level : ℕ) (x : Arena) → arena_at b s.arenas ≡ Some x → level ≤ s.levels → Kept s a (Priority b level) (moved s level x)
moved-kept s a b level x found within =
    let number : x.number ≡ b = found-number b s.arenas x found in
    record {
      apart = λ other.
          let apart : eqb x.number a ≡ false = ap (λ n. eqb n a) number ∙ other in
          record { arena = rw apart (without-other a x.number s.arenas apart); active = refl };
      fine = λ h.
          let y : Arena = record x { stamp = s.next_stamp; level = level } in
          record {
            once = (without-itself x.number s.arenas, without-once x.number s.arenas h.once);
            given =
                All-cons (λ (c : Arena). c.number < s.next_arena) y (without x.number s.arenas) (found-within (λ (c : Arena). c.number < s.next_arena) b s.arenas x found h.given)
                (without-all (λ (c : Arena). c.number < s.next_arena) x.number s.arenas h.given);
            leveled = All-cons (λ (c : Arena). c.level ≤ s.levels) y (without x.number s.arenas) within (without-all (λ (c : Arena). c.level ≤ s.levels) x.number s.arenas h.leveled);
          };
      steady = λ other ordered once. absurd (true≢false (sym ordered));
      ahead = λ other once.
          let apart : eqb x.number a ≡ false = ap (λ n. eqb n a) number ∙ other in
          nearly-moved a (record x { stamp = s.next_stamp; level = level }) s.arenas (without x.number s.arenas) apart
          (λ n. without-fewer x.number n s.arenas) (without-ahead a x.number s.arenas apart once);
    }

priority-kept : (s : State) (a b level : ℕ) → Kept s a (Priority b level) (priority_step s b level)
priority-kept s a b level =
    level-if s a (Priority b level) level _ (λ within.
    kept-arena s a (Priority b level) b (arena_at b s.arenas) _ refl (λ x found.
    kept-if s a (Priority b level) (nat_lt s.last s.next_stamp) (refuse s OutOfNumbers) (moved s level x) (refused s a _ _) (moved-kept s a b level x found within)))

claimed-kept : (s : State) (a b : ℕ) (cmd : Cmd) (r : Reply) (claim : Claim) → (is_just a (subject cmd r) ≡ false → eqb b a ≡ false)
    → Kept s a cmd (r, record s { arenas = with_claim b claim s.arenas })
claimed-kept s a b cmd r claim about =
    record {
      apart = λ other. record { arena = claim-other a b claim s.arenas (about other); active = refl };
      fine = λ h. record {
        once = claim-once b claim s.arenas h.once;
        given = claim-all (λ (c : Arena). c.number < s.next_arena) b claim s.arenas (λ x p. p) h.given;
        leveled = claim-all (λ (c : Arena). c.level ≤ s.levels) b claim s.arenas (λ x p. p) h.leveled;
      };
      steady = λ other ordered once. claim-steady a b claim s.arenas once;
      ahead = λ other once. nearly-ahead (keeps_order cmd) a s.arenas (with_claim b claim s.arenas) (claim-ahead a b claim s.arenas once);
    }

resize-kept : (s : State) (a b slots reserved : ℕ) → Kept s a (Resize b slots reserved) (resize_step s b slots reserved)
resize-kept s a b slots reserved =
    kept-claim s a (Resize b slots reserved) (new_claim slots reserved) _ (λ c.
    kept-arena s a (Resize b slots reserved) b (arena_at b s.arenas) _ refl (λ x found.
    claimed-kept s a b (Resize b slots reserved) _ (with_slots x.claim slots reserved) (λ other. other)))

request-kept : (s : State) (a b : ℕ) (workers mandatory : ℤ) → Kept s a (Request b workers mandatory) (request_step s b workers mandatory)
request-kept s a b workers mandatory =
    kept-arena s a (Request b workers mandatory) b (arena_at b s.arenas) _ refl (λ x found.
    kept-claim s a (Request b workers mandatory) (added_claim x.claim workers mandatory) _ (λ claim.
    claimed-kept s a b (Request b workers mandatory) _ claim (λ other. other)))

-- a step that changes controls alone
controls-kept : (s : State) (a : ℕ) (cmd : Cmd) (r : Reply) (controls : List Living) (next : ℕ) → Kept s a cmd (r, record s { controls = controls; next_control = next })
controls-kept s a cmd r controls next =
    record {
      apart = λ other. record { arena = refl; active = refl };
      fine = λ h. record { once = h.once; given = h.given; leveled = h.leveled };
      steady = λ other ordered once. steady-self a s.arenas;
      ahead = λ other once. nearly-ahead (keeps_order cmd) a s.arenas s.arenas (ahead-self a s.arenas);
    }

control-kept : (s : State) (a value : ℕ) → Kept s a (Control value) (control_step s value)
control-kept s a value =
    kept-if s a (Control value) ((value == 0) || nat_lt 65536 value) (refuse s BadValue) _ (refused s a _ _)
    (kept-if s a (Control value) (nat_le 256 (length s.controls)) (refuse s TooManyControls) _ (refused s a _ _)
    (kept-if s a (Control value) (nat_lt s.last s.next_control) (refuse s OutOfNumbers) _ (refused s a _ _)
    (controls-kept s a (Control value) (Controlled s.next_control) (s.controls ++ record { number = s.next_control; value = value } ∷ []) (s.next_control + 1))))

uncontrol-kept : (s : State) (a c : ℕ) → Kept s a (Uncontrol c) (uncontrol_step s c)
uncontrol-kept s a c =
    kept-if s a (Uncontrol c) (list_any (λ (d : Living). d.number == c) s.controls) _ (refuse s NoControl)
    (controls-kept s a (Uncontrol c) Uncontrolled (filter (λ (d : Living). not (d.number == c)) s.controls) s.next_control) (refused s a _ _)

show-kept : (s : State) (a b : ℕ) → Kept s a (Show b) (show_step s b)
show-kept s a b = kept-arena s a (Show b) b (arena_at b s.arenas) _ refl (λ x found. refused s a (Show b) _)

steps-kept : (s : State) (seat a : ℕ) (cmd : Cmd) → Kept s a cmd (step s seat cmd)
steps-kept s seat a (Open slots reserved level) = open-kept s a slots reserved level
steps-kept s seat a (Close b) = close-kept s a b
steps-kept s seat a (Priority b level) = priority-kept s a b level
steps-kept s seat a (Resize b slots reserved) = resize-kept s a b slots reserved
steps-kept s seat a (Request b workers mandatory) = request-kept s a b workers mandatory
steps-kept s seat a (Control value) = control-kept s a value
steps-kept s seat a (Uncontrol c) = uncontrol-kept s a c
steps-kept s seat a Join = join-kept s a seat (place_of s seat) refl
steps-kept s seat a Stay = stay-kept s a seat (place_of s seat) refl
steps-kept s seat a Leave = leave-kept s a seat (place_of s seat) refl
steps-kept s seat a (Show b) = show-kept s a b
steps-kept s seat a Lists = refused s a Lists _
steps-kept s seat a Limit = refused s a Limit _

pub apart-stands : (s t : State) (seat a : ℕ) (cmd : Cmd) (reply : Reply) → step s seat cmd ≡ (reply, t) → is_just a (subject cmd reply) ≡ false → Stands s t a
apart-stands s t seat a cmd reply answered other =
    subst (λ (o : Outcome). Stands s o.1 a) answered ((steps-kept s seat a cmd).apart (ap (λ (o : Outcome). is_just a (subject cmd o.0)) answered ∙ other))

pub fine-step : (s t : State) (seat : ℕ) (cmd : Cmd) (reply : Reply) → step s seat cmd ≡ (reply, t) → Fine s → Fine t
fine-step s t seat cmd reply answered fine = subst (λ (o : Outcome). Fine o.1) answered ((steps-kept s seat 0 cmd).fine fine)

pub steady-step : (s t : State) (seat a : ℕ) (cmd : Cmd) (reply : Reply) → step s seat cmd ≡ (reply, t) → is_just a (subject cmd reply) ≡ false → keeps_order cmd ≡ true → Once s.arenas
    → Steady a s.arenas t.arenas
steady-step s t seat a cmd reply answered other ordered once =
    subst (λ (o : Outcome). Steady a s.arenas o.1.arenas) answered
    ((steps-kept s seat a cmd).steady (ap (λ (o : Outcome). is_just a (subject cmd o.0)) answered ∙ other) ordered once)

-- a step that is not about the arena changes what stands before it by no more than what its level asks for, but for all that the level asked for
-- where the step may change the order
pub ahead-within : (s t : State) (seat a : ℕ) (cmd : Cmd) (reply : Reply) → step s seat cmd ≡ (reply, t) → is_just a (subject cmd reply) ≡ false
    → Once s.arenas → (level : ℕ)
    → Within (asked_ahead a (at_level level s.arenas)) (asked_ahead a (at_level level t.arenas)) (total_request (at_level level s.arenas))
    (total_request (at_level level t.arenas)) (cond (keeps_order cmd) 0 (total_request (at_level level s.arenas)))
ahead-within s t seat a cmd reply answered other once =
    subst (λ (o : Outcome). Nearly (keeps_order cmd) a s.arenas o.1.arenas) answered
    ((steps-kept s seat a cmd).ahead (ap (λ (o : Outcome). is_just a (subject cmd o.0)) answered ∙ other) once)

-- a step that keeps the order, and is not about the arena, changes what stands before it by no more than what its level asks for
pub ahead-step : (s t : State) (seat a : ℕ) (cmd : Cmd) (reply : Reply) → step s seat cmd ≡ (reply, t) → is_just a (subject cmd reply) ≡ false → keeps_order cmd ≡ true → Once s.arenas
    → (level : ℕ) → Follows (asked_ahead a (at_level level s.arenas)) (asked_ahead a (at_level level t.arenas)) (total_request (at_level level s.arenas))
    (total_request (at_level level t.arenas))
ahead-step s t seat a cmd reply answered other ordered once =
    ahead-nearly a s.arenas t.arenas (subst (λ b. Nearly b a s.arenas t.arenas) ordered (ahead-within s t seat a cmd reply answered other once))
