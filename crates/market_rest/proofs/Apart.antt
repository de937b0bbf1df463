-- That arenas have numbers of their own, in any order and after any calls.
use Rattle.std.specs.Prelude.{◌||◌, ℤ, not, Result, Ok, Err}
use Rattle.std.proofs.Common.{◌≡◌, ℕ, zero, suc, ◌+◌, ◌<◌, ◌≤◌, Bool, true, false, true≢false, cond, eqb, ltb, leb, List, [], ◌∷◌, ◌++◌, length, Option, Some, None, refl, sym, ◌∙◌, arith, inl, inr, subst, All}
use Rattle.std.specs.List.{AllByRecursion, filter, flat_map, list_any, range_with_len}
use Rattle.std.proofs.lemmas.Bool.{cases_Bool, cases_eq, eq-eqb, eqb-true, ltb-false, ne_eqb}
use Rattle.std.proofs.lemmas.List.Elements.{recursion_from_All}
use Rattle.std.proofs.lemmas.Option.{none-some, same_Some}
use Rattle.market_types.specs.declared.command.Call.{Call}
use Rattle.market_types.specs.declared.command.Cmd.{Cmd}
use Rattle.market_types.specs.declared.command.Cmd.TheVariants as cmd
use Rattle.market_types.specs.declared.reply.Fault.{Fault}
use Rattle.market_types.specs.declared.reply.Fault.TheVariants as fault
use Rattle.market_types.specs.declared.reply.Reply.TheVariants as reply
use Rattle.market_types.specs.State.{Arena, Claim, Control, State, opening_to}
use Rattle.market_types.specs.Claims.{added_claim, new_claim, request_of, with_slots}
use Rattle.market_types.specs.Allotment.{active, at_level, in_order, need, recall}
use Rattle.market_types.specs.History.{state_after}
use Rattle.market_types.specs.Step.{Outcome, arena_at, control_step, if_arena, if_claim, join_at, join_from, leave_from, moved, open_step, opened, place_of, priority_step, refuse, stay_from, step, uncontrol_step, view_of, with_claim, with_place, without}
use Rattle.market_types.specs.Commands.{Fits}
use Rattle.market_rest.specs.Apart.{AreApart, IsOrdered}

-- ---- lists

each_append : {A : Type 0} (P : A → Type 0) (xs ys : List A) → AllByRecursion P xs → AllByRecursion P ys → AllByRecursion P (xs ++ ys)
each_append P [] ys a b = b
each_append P (x ∷ xs) ys a b = (a.0, each_append P xs ys a.1 b)

pub each_weaker : {A : Type 0} (P Q : A → Type 0) → ((x : A) → P x → Q x) → (xs : List A) → AllByRecursion P xs → AllByRecursion Q xs
each_weaker P Q f [] a = tt
each_weaker P Q f (x ∷ xs) a = (f x a.0, each_weaker P Q f xs a.1)

each_both : {A : Type 0} (P Q R : A → Type 0) → ((x : A) → P x → Q x → R x) → (xs : List A) → AllByRecursion P xs → AllByRecursion Q xs → AllByRecursion R xs
each_both P Q R f [] a b = tt
each_both P Q R f (x ∷ xs) a b = (f x a.0 b.0, each_both P Q R f xs a.1 b.1)

-- those that pass a test
each_filter : {A : Type 0} (P : A → Type 0) (p : A → Bool) (xs : List A) → AllByRecursion P xs → AllByRecursion (λ x. P x × (p x ≡ true)) (filter p xs)
each_filter P p [] a = tt
each_filter P p (x ∷ xs) a = elim (cases_Bool (p x)) [ inl t ↦ rw t ((a.0, t), each_filter P p xs a.1) | inr f ↦ rw f (each_filter P p xs a.1) ]

-- what is found stands in the list
found_in : (a : ℕ) (P : Arena → Type 0) (xs : List Arena) (b : Arena) → AllByRecursion P xs → arena_at a xs ≡ Some b → P b
found_in a P [] b h e = absurd (none-some b e)
found_in a P (x ∷ xs) b h e =
    elim (cases_Bool (eqb x.number a)) [
      | inl t ↦ let here : Some x ≡ Some b = rw t at e in subst P (same_Some x b here) h.0
      | inr f ↦ let later : arena_at a xs ≡ Some b = rw f at e in found_in a P xs b h.1 later
    ]

turned : (n m : ℕ) → eqb n m ≡ false → eqb m n ≡ false
turned n m e = elim (cases_eq m n) [
  | inl same ↦ absurd (true≢false (sym (eq-eqb n m (sym same)) ∙ e))
  | inr other ↦ ne_eqb m n other
]

-- ---- arenas apart, in any order of levels

apart_filter : (p : Arena → Bool) (xs : List Arena) → AreApart xs → AreApart (filter p xs)
apart_filter p [] a = tt
apart_filter p (x ∷ xs) a =
    let P : Arena → Type 0 = λ y. eqb x.number y.number ≡ false in
    let rest = apart_filter p xs a.1 in
    elim (cases_Bool (p x)) [
      | inl t ↦ rw t (each_weaker (λ y. P y × (p y ≡ true)) P (λ y h. h.0) (filter p xs) (each_filter P p xs a.0), rest)
      | inr f ↦ rw f rest
    ]

abbrev Others : List Arena → Arena → Type 0
Others ys x = AllByRecursion (λ (y : Arena). eqb x.number y.number ≡ false) ys

apart_append : (xs ys : List Arena) → AreApart xs → AreApart ys → AllByRecursion (Others ys) xs → AreApart (xs ++ ys)
apart_append [] ys a b h = b
apart_append (x ∷ xs) ys a b h = (each_append (λ (y : Arena). eqb x.number y.number ≡ false) xs ys a.0 h.0, apart_append xs ys a.1 b h.1)

-- of different levels, and so of different numbers
abbrev Differ : Arena → Arena → Type 0
Differ x y = eqb x.level y.level ≡ false → eqb x.number y.number ≡ false

differ_all : (xs : List Arena) → AreApart xs → AllByRecursion (λ (x : Arena). AllByRecursion (Differ x) xs) xs
differ_all [] a = tt
differ_all (z ∷ zs) a = (
  (λ e. absurd (true≢false (sym (eq-eqb z.level z.level refl) ∙ e)), each_weaker (λ (y : Arena). eqb z.number y.number ≡ false) (Differ z) (λ y f e. f) zs a.0),
  each_both (λ (x : Arena). eqb z.number x.number ≡ false) (λ (x : Arena). AllByRecursion (Differ x) zs) (λ (x : Arena). AllByRecursion (Differ x) (z ∷ zs)) (λ x f h. (λ e. turned z.number x.number f, h)) zs a.0 (differ_all zs a.1),
)

pub in_levels : (P : Arena → Type 0) (arenas : List Arena) (from n : ℕ) → AllByRecursion P arenas → AllByRecursion (λ (y : Arena). P y × (from ≤ y.level)) (flat_map (λ level. at_level level arenas) (range_with_len from n))
in_levels P arenas from zero h = tt
in_levels P arenas from (suc n) h =
    let Q : Arena → Type 0 = λ y. P y × (from ≤ y.level) in
    each_append Q (at_level from arenas) (flat_map (λ level. at_level level arenas) (range_with_len (from + 1) n))
    (each_weaker (λ (y : Arena). P y × (eqb y.level from ≡ true)) Q (λ y g. (g.0, (let e = eqb-true y.level from g.1 in omega arith))) (at_level from arenas) (each_filter P (λ (y : Arena). eqb y.level from) arenas h))
    (each_weaker (λ (y : Arena). P y × (from + 1 ≤ y.level)) Q (λ y g. (g.0, (let e = g.1 in omega arith))) (flat_map (λ level. at_level level arenas) (range_with_len (from + 1) n)) (in_levels P arenas (from + 1) n h))

apart_levels : (arenas : List Arena) (from n : ℕ) → AreApart arenas → AreApart (flat_map (λ level. at_level level arenas) (range_with_len from n))
apart_levels arenas from zero a = tt
apart_levels arenas from (suc n) a =
    let here = at_level from arenas in
    let rest = flat_map (λ level. at_level level arenas) (range_with_len (from + 1) n) in
    let Of : Arena → Type 0 = λ x. AllByRecursion (Differ x) arenas in
    apart_append here rest (apart_filter (λ (b : Arena). eqb b.level from) arenas a) (apart_levels arenas (from + 1) n a)
    (each_weaker (λ (x : Arena). Of x × (eqb x.level from ≡ true)) (Others rest)
    (λ x g.
    let own = eqb-true x.level from g.1 in
    each_weaker (λ (y : Arena). Differ x y × (from + 1 ≤ y.level)) (λ (y : Arena). eqb x.number y.number ≡ false)
    (λ y h. h.0 (ne_eqb x.level y.level (λ e. let later = h.1 in absurd (omega arith)))) rest (in_levels (Differ x) arenas (from + 1) n g.0))
    here (each_filter Of (λ (b : Arena). eqb b.level from) arenas (differ_all arenas a)))

pub apart_in_order : (s : State) → AreApart s.arenas → AreApart (in_order s)
apart_in_order s a = apart_levels s.arenas 1 s.levels a

-- ---- after a command

claim_each : (Q : ℕ → ℕ → Type 0) (a : ℕ) (c : Claim) (xs : List Arena) → AllByRecursion (λ (b : Arena). Q b.number b.level) xs → AllByRecursion (λ (b : Arena). Q b.number b.level) (with_claim a c xs)
claim_each Q a c [] h = tt
claim_each Q a c (x ∷ xs) h = elim (cases_Bool (eqb x.number a)) [ inl t ↦ rw t (h.0, claim_each Q a c xs h.1) | inr f ↦ rw f (h.0, claim_each Q a c xs h.1) ]

claim_apart : (a : ℕ) (c : Claim) (xs : List Arena) → AreApart xs → AreApart (with_claim a c xs)
claim_apart a c [] h = tt
claim_apart a c (x ∷ xs) h =
    let others = claim_each (λ n level. eqb x.number n ≡ false) a c xs h.0 in
    elim (cases_Bool (eqb x.number a)) [ inl t ↦ rw t (others, claim_apart a c xs h.1) | inr f ↦ rw f (others, claim_apart a c xs h.1) ]

ordered_if : (b : Bool) (x y : Outcome) → (b ≡ true → IsOrdered x.1) → (b ≡ false → IsOrdered y.1) → IsOrdered (cond b x y).1
ordered_if true x y p q = p refl
ordered_if false x y p q = q refl

module _ (s : State) (h : IsOrdered s) where
  claimed : (a : ℕ) (c : Claim) → IsOrdered (record s { arenas = with_claim a c s.arenas })
  claimed a c = record {
    numbered = claim_each (λ n level. n < s.next_arena) a c s.arenas h.numbered;
    leveled = claim_each (λ n level. (1 ≤ level) × (level ≤ s.levels)) a c s.arenas h.leveled;
    apart = claim_apart a c s.arenas h.apart;
  }

  placed : (seat : ℕ) (place : Option ℕ) → IsOrdered (with_place s seat place)
  placed seat place = record { numbered = h.numbered; leveled = h.leveled; apart = h.apart }

  opens : (level : ℕ) (claim : Claim) → 1 ≤ level → ltb s.levels level ≡ false → IsOrdered (opened s level claim).1
  opens level claim low high = record {
    numbered = ((omega arith), each_weaker (λ (b : Arena). b.number < s.next_arena) (λ (b : Arena). b.number < s.next_arena + 1) (λ b lt. omega arith) s.arenas h.numbered);
    leveled = ((low, omega (arith, ltb-false s.levels level high)), h.leveled);
    apart = (each_weaker (λ (b : Arena). b.number < s.next_arena) (λ (b : Arena). eqb s.next_arena b.number ≡ false) (λ b lt. ne_eqb s.next_arena b.number (λ e. absurd (omega arith))) s.arenas h.numbered, h.apart);
  }

  open_ordered : (slots reserved level : ℕ) → 1 ≤ level → IsOrdered (open_step s slots reserved level).1
  open_ordered slots reserved level low = with_result (new_claim slots reserved)
    where
      with_result : (r : Result Claim Fault)
          → IsOrdered (if_claim s r (λ claim. cond (ltb s.levels level) (refuse s fault.BadLevel) (cond (leb 1024 (length s.arenas)) (refuse s fault.TooManyArenas) (cond (ltb s.last s.next_arena || ltb s.last s.next_stamp) (refuse s fault.OutOfNumbers) (opened s level claim))))).1
      with_result (Err f) = h
      with_result (Ok claim) =
          let numbers : Outcome = cond (ltb s.last s.next_arena || ltb s.last s.next_stamp) (refuse s fault.OutOfNumbers) (opened s level claim) in
          ordered_if (ltb s.levels level) (refuse s fault.BadLevel) (cond (leb 1024 (length s.arenas)) (refuse s fault.TooManyArenas) numbers) (λ t. h)
          (λ high. ordered_if (leb 1024 (length s.arenas)) (refuse s fault.TooManyArenas) numbers (λ t. h)
          (λ f. ordered_if (ltb s.last s.next_arena || ltb s.last s.next_stamp) (refuse s fault.OutOfNumbers) (opened s level claim) (λ t. h) (λ g. opens level claim low high)))

  goes : (a : ℕ) → IsOrdered (record s { arenas = without a s.arenas })
  goes a =
      let stay : Arena → Bool = λ b. not (eqb b.number a) in
      let Low : Arena → Type 0 = λ b. b.number < s.next_arena in
      let At : Arena → Type 0 = λ b. (1 ≤ b.level) × (b.level ≤ s.levels) in
      record {
        numbered = each_weaker (λ b. Low b × (stay b ≡ true)) Low (λ b g. g.0) (without a s.arenas) (each_filter Low stay s.arenas h.numbered);
        leveled = each_weaker (λ b. At b × (stay b ≡ true)) At (λ b g. g.0) (without a s.arenas) (each_filter At stay s.arenas h.leveled);
        apart = apart_filter stay s.arenas h.apart;
      }

  close_found : (a : ℕ) (o : Option Arena) → IsOrdered (if_arena s o (λ _. cond (ltb 0 (active s a)) (refuse s (fault.Busy (active s a))) (reply.Closed, record s { arenas = without a s.arenas }))).1
  close_found a None = h
  close_found a (Some b) = ordered_if (ltb 0 (active s a)) (refuse s (fault.Busy (active s a))) (reply.Closed, record s { arenas = without a s.arenas }) (λ t. h) (λ f. goes a)

  not_true : (b : Bool) → not b ≡ true → b ≡ false
  not_true true e = sym e
  not_true false e = refl

  moves : (level : ℕ) (b : Arena) → 1 ≤ level → ltb s.levels level ≡ false → b.number < s.next_arena → IsOrdered (moved s level b).1
  moves level b low high own =
      let left = goes b.number in
      let stay : Arena → Bool = λ c. not (eqb c.number b.number) in
      let Low : Arena → Type 0 = λ c. c.number < s.next_arena in
      record {
        numbered = (own, left.numbered);
        leveled = ((low, omega (arith, ltb-false s.levels level high)), left.leveled);
        apart = (
          each_weaker (λ c. Low c × (stay c ≡ true)) (λ c. eqb b.number c.number ≡ false) (λ c g. turned c.number b.number (not_true (eqb c.number b.number) g.1)) (without b.number s.arenas) (each_filter Low stay s.arenas h.numbered),
          left.apart,
        );
      }

  priority_found : (a level : ℕ) (o : Option Arena) → 1 ≤ level → ltb s.levels level ≡ false → arena_at a s.arenas ≡ o → IsOrdered (if_arena s o (λ arena. cond (ltb s.last s.next_stamp) (refuse s fault.OutOfNumbers) (moved s level arena))).1
  priority_found a level None low high e = h
  priority_found a level (Some b) low high e =
      ordered_if (ltb s.last s.next_stamp) (refuse s fault.OutOfNumbers) (moved s level b) (λ t. h) (λ f. moves level b low high (found_in a (λ (c : Arena). c.number < s.next_arena) s.arenas b h.numbered e))

  priority_ordered : (a level : ℕ) → 1 ≤ level → IsOrdered (priority_step s a level).1
  priority_ordered a level low =
      ordered_if (ltb s.levels level) (refuse s fault.BadLevel) (if_arena s (arena_at a s.arenas) (λ arena. cond (ltb s.last s.next_stamp) (refuse s fault.OutOfNumbers) (moved s level arena)))
      (λ t. h) (λ high. priority_found a level (arena_at a s.arenas) low high refl)

  resized : (a slots reserved : ℕ) (r : Result Claim Fault) (o : Option Arena)
      → IsOrdered (if_claim s r (λ _. if_arena s o (λ arena. (reply.Resized (request_of (with_slots arena.claim slots reserved)), record s { arenas = with_claim a (with_slots arena.claim slots reserved) s.arenas })))).1
  resized a slots reserved (Err f) o = h
  resized a slots reserved (Ok c) None = h
  resized a slots reserved (Ok c) (Some arena) = claimed a (with_slots arena.claim slots reserved)

  requested : (a : ℕ) (r : Result Claim Fault) → IsOrdered (if_claim s r (λ claim. (reply.Requested (request_of claim), record s { arenas = with_claim a claim s.arenas }))).1
  requested a (Err f) = h
  requested a (Ok c) = claimed a c

  asked : (a : ℕ) (workers mandatory : ℤ) (o : Option Arena)
      → IsOrdered (if_arena s o (λ arena. if_claim s (added_claim arena.claim workers mandatory) (λ claim. (reply.Requested (request_of claim), record s { arenas = with_claim a claim s.arenas })))).1
  asked a workers mandatory None = h
  asked a workers mandatory (Some arena) = requested a (added_claim arena.claim workers mandatory)

  with_controls : (controls : List Control) (next : ℕ) → IsOrdered (record s { controls = controls; next_control = next })
  with_controls controls next = record { numbered = h.numbered; leveled = h.leveled; apart = h.apart }

  control_ordered : (value : ℕ) → IsOrdered (control_step s value).1
  control_ordered value =
      let made : Outcome = (reply.Controlled s.next_control, record s { controls = s.controls ++ record { number = s.next_control; value = value } ∷ []; next_control = s.next_control + 1 }) in
      let numbers : Outcome = cond (ltb s.last s.next_control) (refuse s fault.OutOfNumbers) made in
      ordered_if (eqb value 0 || ltb 65536 value) (refuse s fault.BadValue) (cond (leb 256 (length s.controls)) (refuse s fault.TooManyControls) numbers) (λ t. h)
      (λ f. ordered_if (leb 256 (length s.controls)) (refuse s fault.TooManyControls) numbers (λ t. h)
      (λ g. ordered_if (ltb s.last s.next_control) (refuse s fault.OutOfNumbers) made (λ t. h) (λ k. with_controls (s.controls ++ record { number = s.next_control; value = value } ∷ []) (s.next_control + 1))))

  uncontrol_ordered : (c : ℕ) → IsOrdered (uncontrol_step s c).1
  uncontrol_ordered c =
      let left : List Control = filter (λ (d : Control). not (eqb d.number c)) s.controls in
      ordered_if (list_any (λ (d : Control). eqb d.number c) s.controls) (reply.Uncontrolled, record s { controls = left }) (refuse s fault.NoControl)
      (λ t. record { numbered = h.numbered; leveled = h.leveled; apart = h.apart }) (λ f. h)

  join_needed : (seat : ℕ) (o : Option Arena) → IsOrdered (join_at s seat o).1
  join_needed seat None = h
  join_needed seat (Some arena) = placed seat (Some arena.number)

  join_ordered : (seat : ℕ) (place : Option ℕ) → IsOrdered (join_from s seat place).1
  join_ordered seat None = join_needed seat (need s)
  join_ordered seat (Some n) = h

  stay_ordered : (seat : ℕ) (place : Option ℕ) → IsOrdered (stay_from s seat place).1
  stay_ordered seat None = h
  stay_ordered seat (Some n) = ordered_if (ltb 0 (recall s n)) (reply.Recalled n, with_place s seat None) (reply.Stays n, s) (λ t. placed seat None) (λ f. h)

  leave_ordered : (seat : ℕ) (place : Option ℕ) → IsOrdered (leave_from s seat place).1
  leave_ordered seat None = h
  leave_ordered seat (Some n) = placed seat None

  shown : (o : Option Arena) → IsOrdered (if_arena s o (λ arena. (reply.Shown (view_of s arena), s))).1
  shown None = h
  shown (Some arena) = h

  step_ordered : (seat : ℕ) (c : Cmd) → Fits c → IsOrdered (step s seat c).1
  step_ordered seat (cmd.Open slots reserved level) fits = open_ordered slots reserved level fits.2.0
  step_ordered seat (cmd.Close a) fits = close_found a (arena_at a s.arenas)
  step_ordered seat (cmd.Priority a level) fits = priority_ordered a level fits.1.0
  step_ordered seat (cmd.Resize a slots reserved) fits = resized a slots reserved (new_claim slots reserved) (arena_at a s.arenas)
  step_ordered seat (cmd.Request a workers mandatory) fits = asked a workers mandatory (arena_at a s.arenas)
  step_ordered seat (cmd.Control value) fits = control_ordered value
  step_ordered seat (cmd.Uncontrol c) fits = uncontrol_ordered c
  step_ordered seat cmd.Join fits = join_ordered seat (place_of s seat)
  step_ordered seat cmd.Stay fits = stay_ordered seat (place_of s seat)
  step_ordered seat cmd.Leave fits = leave_ordered seat (place_of s seat)
  step_ordered seat (cmd.Show a) fits = shown (arena_at a s.arenas)
  step_ordered seat cmd.Lists fits = h
  step_ordered seat cmd.Limit fits = h

-- ---- after all calls

kept : (calls : List Call) (s : State) → AllByRecursion (λ (c : Call). Fits c.cmd) calls → IsOrdered s → IsOrdered (state_after s calls)
kept [] s fit h = h
kept (c ∷ calls) s fit h = kept calls (step s c.seat c.cmd).1 fit.1 (step_ordered s h c.seat c.cmd fit.0)

pub always_ordered : (base hard seats levels last : ℕ) (calls : List Call) → All (λ (c : Call). Fits c.cmd) calls → IsOrdered (state_after (opening_to base hard seats levels last) calls)
always_ordered base hard seats levels last calls fit =
    kept calls (opening_to base hard seats levels last) (recursion_from_All (λ (c : Call). Fits c.cmd) calls fit) (record { numbered = tt; leveled = tt; apart = tt })
