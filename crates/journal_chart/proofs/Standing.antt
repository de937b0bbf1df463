-- Where an arena stands after a step: what a command and its reply say of its level.
use Rattle.std.specs.Prelude.{◌==◌, ◌||◌, ◌+◌, ◌++◌, ℤ, length, nat_le, nat_lt}
use Rattle.std.specs.List.{filter, list_any}
use Rattle.std.specs.Option.{option_map}
use Rattle.std.proofs.Common.{◌≡◌, ℕ, Bool, true, false, cond, eqb, not, List, [], ◌∷◌, Option, Some, None, Result, Ok, Err, refl, sym, ap, ◌∙◌, inl, inr, arith}
use Rattle.std.proofs.lemmas.Bool.{cases_Bool}
use Rattle.std.proofs.lemmas.Bool.Decides.{nat_tests}
use Rattle.market_types.specs.declared.command.Cmd.{Cmd}
use Rattle.market_types.specs.declared.command.Cmd.TheVariants.{Open, Close, Priority, Resize, Request, Control, Uncontrol, Join, Stay, Leave, Show, Lists, Limit}
use Rattle.market_types.specs.declared.reply.Fault.{Fault}
use Rattle.market_types.specs.declared.reply.Fault.TheVariants.{BadLevel, TooManyArenas, OutOfNumbers, NoArena, Busy, BadValue, TooManyControls, NoControl}
use Rattle.market_types.specs.declared.reply.Reply.TheVariants.{Controlled, Uncontrolled, Recalled, Stays}
use Rattle.market_types.specs.Claims.{new_claim, with_slots, added_claim}
use Rattle.market_types.specs.State.{Claim, Arena, Control as Living, State}
use Rattle.market_types.specs.Allotment.{need, active, recall}
use Rattle.market_types.specs.Step.{Outcome, refuse, if_arena, if_claim, open_step, close_step, moved, priority_step, resize_step, request_step, control_step, uncontrol_step, show_step, arena_at, without, with_claim, place_of, with_place, join_at, join_from, stay_from, leave_from, step}
use Rattle.journal_chart.specs.Numbers.{level_at}
use Rattle.journal_chart.specs.Steps.{stands_after}

abbrev level_in : ℕ → List Arena → Option ℕ
level_in a arenas = option_map (λ (b : Arena). b.level) (arena_at a arenas)

-- ---- the lists of arenas

-- one arena or another at the same level, or those behind them
level-if : (c : Bool) (x y : Arena) (o p : Option Arena) → x.level ≡ y.level → option_map (λ (b : Arena). b.level) o ≡ option_map (λ (b : Arena). b.level) p
    → option_map (λ (b : Arena). b.level) (cond c (Some x) o) ≡ option_map (λ (b : Arena). b.level) (cond c (Some y) p)
level-if true x y o p same rest = ap (λ l. Some l) same
level-if false x y o p same rest = rest

claim-level : (a b : ℕ) (claim : Claim) (xs : List Arena) → level_in a (with_claim b claim xs) ≡ level_in a xs
claim-level a b claim [] = refl
claim-level a b claim (x ∷ xs) =
    elim (cases_Bool (eqb x.number b)) [
      | inl here ↦ rw here (level-if (eqb x.number a) (record x { claim = claim }) x (arena_at a (with_claim b claim xs)) (arena_at a xs) refl (claim-level a b claim xs))
      | inr not ↦ rw not (level-if (eqb x.number a) x x (arena_at a (with_claim b claim xs)) (arena_at a xs) refl (claim-level a b claim xs))
    ]

-- an arena that stays where others go
without-other : (a b : ℕ) (xs : List Arena) → eqb b a ≡ false → level_in a (without b xs) ≡ level_in a xs
without-other a b [] apart = refl
without-other a b (x ∷ xs) apart =
    elim (cases_Bool (eqb x.number b)) [
      | inl here ↦
          let same : x.number ≡ b = grind (arith, nat_tests) in
          let other : eqb x.number a ≡ false = ap (λ n. eqb n a) same ∙ apart in
          rw (here, other) (without-other a b xs apart)
      | inr not ↦ rw not (level-if (eqb x.number a) x x (arena_at a (without b xs)) (arena_at a xs) refl (without-other a b xs apart))
    ]

without-self : (a : ℕ) (xs : List Arena) → level_in a (without a xs) ≡ None
without-self a [] = refl
without-self a (x ∷ xs) =
    elim (cases_Bool (eqb x.number a)) [
      | inl here ↦ rw here (without-self a xs)
      | inr not ↦ rw (not, not) (without-self a xs)
    ]

without-level : (a b : ℕ) (xs : List Arena) → level_in a (without b xs) ≡ cond (eqb b a) None (level_in a xs)
without-level a b xs =
    elim (cases_Bool (eqb b a)) [
      | inl here ↦
          let same : b ≡ a = grind (arith, nat_tests) in
          rw here (ap (λ n. level_in a (without n xs)) same ∙ without-self a xs)
      | inr not ↦ rw not (without-other a b xs not)
    ]

found-number : (b : ℕ) (xs : List Arena) (x : Arena) → arena_at b xs ≡ Some x → x.number ≡ b
found-number b [] x found = absurd (cc)
found-number b (y ∷ ys) x found =
    elim (cases_Bool (eqb y.number b)) [
      | inl here ↦
          let is : Some y ≡ Some x = rw here at found in
          let same : y ≡ x = cc in
          let number : y.number ≡ b = grind (arith, nat_tests) in
          sym (ap (λ (z : Arena). z.number) same) ∙ number
      | inr not ↦ let later : arena_at b ys ≡ Some x = rw not at found in found-number b ys x later
    ]

-- the first arena, or one of the others
first-level : (c : Bool) (x : Arena) (o : Option Arena) → option_map (λ (b : Arena). b.level) (cond c (Some x) o) ≡ cond c (Some x.level) (option_map (λ (b : Arena). b.level) o)
first-level true x o = refl
first-level false x o = refl

both-cond : (c : Bool) (x : Option ℕ) (y : Option ℕ) → cond c x (cond c None y) ≡ cond c x y
both-cond true x y = refl
both-cond false x y = refl

-- ---- the commands

-- a command that has this outcome leaves an arena where it and its reply say
record Stands (s : State) (a : ℕ) (cmd : Cmd) (o : Outcome) : Type 0 where
  is : level_at a o.1 ≡ stands_after a (level_at a s) cmd o.0

stands-if : (s : State) (a : ℕ) (cmd : Cmd) (b : Bool) (x y : Outcome) → Stands s a cmd x → Stands s a cmd y → Stands s a cmd (cond b x y)
stands-if s a cmd true x y h k = h
stands-if s a cmd false x y h k = k

stands-claim : (s : State) (a : ℕ) (cmd : Cmd) (r : Result Claim Fault) (f : Claim → Outcome) → ((fault : Fault) → Stands s a cmd (refuse s fault))
    → ((c : Claim) → Stands s a cmd (f c)) → Stands s a cmd (if_claim s r f)
stands-claim s a cmd (Err fault) f refused h = refused fault
stands-claim s a cmd (Ok c) f refused h = h c

stands-arena : (s : State) (a : ℕ) (cmd : Cmd) (b : ℕ) (o : Option Arena) (f : Arena → Outcome) → arena_at b s.arenas ≡ o
    → ((fault : Fault) → Stands s a cmd (refuse s fault)) → ((x : Arena) → x.number ≡ b → Stands s a cmd (f x)) → Stands s a cmd (if_arena s o f)
stands-arena s a cmd b None f found refused h = refused NoArena
stands-arena s a cmd b (Some x) f found refused h = h x (found-number b s.arenas x found)

join_at-stands : (s : State) (seat a : ℕ) (o : Option Arena) → Stands s a Join (join_at s seat o)
join_at-stands s seat a None = record { is = refl }
join_at-stands s seat a (Some x) = record { is = refl }

join-stands : (s : State) (seat a : ℕ) (p : Option ℕ) → Stands s a Join (join_from s seat p)
join-stands s seat a None = join_at-stands s seat a (need s)
join-stands s seat a (Some b) = record { is = refl }

stay-stands : (s : State) (seat a : ℕ) (p : Option ℕ) → Stands s a Stay (stay_from s seat p)
stay-stands s seat a None = record { is = refl }
stay-stands s seat a (Some b) =
    stands-if s a Stay (nat_lt 0 (recall s b)) (Recalled b, with_place s seat None) (Stays b, s) (record { is = refl }) (record { is = refl })

leave-stands : (s : State) (seat a : ℕ) (p : Option ℕ) → Stands s a Leave (leave_from s seat p)
leave-stands s seat a None = record { is = refl }
leave-stands s seat a (Some b) = record { is = refl }

open-stands : (s : State) (slots reserved level a : ℕ) → Stands s a (Open slots reserved level) (open_step s slots reserved level)
open-stands s slots reserved level a =
    stands-claim s a (Open slots reserved level) (new_claim slots reserved) _ (λ fault. record { is = refl }) (λ claim.
    stands-if s a (Open slots reserved level) (nat_lt s.levels level) _ _ (same BadLevel)
    (stands-if s a (Open slots reserved level) (nat_le 1024 (length s.arenas)) _ _ (same TooManyArenas)
    (stands-if s a (Open slots reserved level) (nat_lt s.last s.next_arena || nat_lt s.last s.next_stamp) _ _ (same OutOfNumbers)
    (record { is = first-level (eqb s.next_arena a) (record { number = s.next_arena; stamp = s.next_stamp; level = level; claim = claim }) (arena_at a s.arenas) }))))
  where
    same : (fault : Fault) → Stands s a (Open slots reserved level) (refuse s fault)
    same fault = record { is = refl }

close-stands : (s : State) (b a : ℕ) → Stands s a (Close b) (close_step s b)
close-stands s b a =
    stands-arena s a (Close b) b (arena_at b s.arenas) _ refl (λ fault. record { is = refl }) (λ x number.
    stands-if s a (Close b) (nat_lt 0 (active s b)) (refuse s (Busy (active s b))) _ (record { is = refl }) (record { is = without-level a b s.arenas }))

priority-stands : (s : State) (b level a : ℕ) → Stands s a (Priority b level) (priority_step s b level)
priority-stands s b level a =
    stands-if s a (Priority b level) (nat_lt s.levels level) (refuse s BadLevel) _ (record { is = refl })
    (stands-arena s a (Priority b level) b (arena_at b s.arenas) _ refl (λ fault. record { is = refl }) (λ x number.
    stands-if s a (Priority b level) (nat_lt s.last s.next_stamp) (refuse s OutOfNumbers) (moved s level x) (record { is = refl })
    (record {
      is =
          first-level (eqb x.number a) (record x { stamp = s.next_stamp; level = level }) (arena_at a (without x.number s.arenas))
          ∙ ap (cond (eqb x.number a) (Some level)) (without-level a x.number s.arenas)
          ∙ both-cond (eqb x.number a) (Some level) (level_at a s)
          ∙ ap (λ n. cond (eqb n a) (Some level) (level_at a s)) number;
    })))

resize-stands : (s : State) (b slots reserved a : ℕ) → Stands s a (Resize b slots reserved) (resize_step s b slots reserved)
resize-stands s b slots reserved a =
    stands-claim s a (Resize b slots reserved) (new_claim slots reserved) _ (λ fault. record { is = refl }) (λ c.
    stands-arena s a (Resize b slots reserved) b (arena_at b s.arenas) _ refl (λ fault. record { is = refl }) (λ x number.
    record { is = claim-level a b (with_slots x.claim slots reserved) s.arenas }))

request-stands : (s : State) (b : ℕ) (workers mandatory : ℤ) (a : ℕ) → Stands s a (Request b workers mandatory) (request_step s b workers mandatory)
request-stands s b workers mandatory a =
    stands-arena s a (Request b workers mandatory) b (arena_at b s.arenas) _ refl (λ fault. record { is = refl }) (λ x number.
    stands-claim s a (Request b workers mandatory) (added_claim x.claim workers mandatory) _ (λ fault. record { is = refl }) (λ claim.
    record { is = claim-level a b claim s.arenas }))

-- the market with one control more
abbrev controlled : State → ℕ → State
controlled s value =
    record s { controls = s.controls ++ record { number = s.next_control; value = value } ∷ []; next_control = s.next_control + 1 }

control-stands : (s : State) (value a : ℕ) → Stands s a (Control value) (control_step s value)
control-stands s value a =
    stands-if s a (Control value) ((value == 0) || nat_lt 65536 value) (refuse s BadValue) _ (record { is = refl })
    (stands-if s a (Control value) (nat_le 256 (length s.controls)) (refuse s TooManyControls) _ (record { is = refl })
    (stands-if s a (Control value) (nat_lt s.last s.next_control) (refuse s OutOfNumbers) (Controlled s.next_control, controlled s value) (record { is = refl }) (record { is = refl })))

uncontrol-stands : (s : State) (c a : ℕ) → Stands s a (Uncontrol c) (uncontrol_step s c)
uncontrol-stands s c a =
    stands-if s a (Uncontrol c) (list_any (λ (d : Living). d.number == c) s.controls)
    (Uncontrolled, record s { controls = filter (λ (d : Living). not (d.number == c)) s.controls }) (refuse s NoControl) (record { is = refl }) (record { is = refl })

show-stands : (s : State) (b a : ℕ) → Stands s a (Show b) (show_step s b)
show-stands s b a = stands-arena s a (Show b) b (arena_at b s.arenas) _ refl (λ fault. record { is = refl }) (λ x number. record { is = refl })

steps-stand : (s : State) (seat : ℕ) (cmd : Cmd) (a : ℕ) → Stands s a cmd (step s seat cmd)
steps-stand s seat (Open slots reserved level) a = open-stands s slots reserved level a
steps-stand s seat (Close b) a = close-stands s b a
steps-stand s seat (Priority b level) a = priority-stands s b level a
steps-stand s seat (Resize b slots reserved) a = resize-stands s b slots reserved a
steps-stand s seat (Request b workers mandatory) a = request-stands s b workers mandatory a
steps-stand s seat (Control value) a = control-stands s value a
steps-stand s seat (Uncontrol c) a = uncontrol-stands s c a
steps-stand s seat Join a = join-stands s seat a (place_of s seat)
steps-stand s seat Stay a = stay-stands s seat a (place_of s seat)
steps-stand s seat Leave a = leave-stands s seat a (place_of s seat)
steps-stand s seat (Show b) a = show-stands s b a
steps-stand s seat Lists a = record { is = refl }
steps-stand s seat Limit a = record { is = refl }

pub stands : (s : State) (seat : ℕ) (cmd : Cmd) (a : ℕ) → level_at a (step s seat cmd).1 ≡ stands_after a (level_at a s) cmd (step s seat cmd).0
stands s seat cmd a = (steps-stand s seat cmd a).is
