-- What an arena asks for, whatever is called at other arenas.
use Rattle.std.specs.Prelude.{◌||◌, ℤ, pos, Result, Ok, Err}
use Rattle.std.proofs.Common.{◌≡◌, ℕ, ◌+◌, Bool, true, false, true≢false, cond, eqb, ltb, leb, List, [], ◌∷◌, ◌++◌, length, map, Option, Some, None, refl, sym, ap, ◌∙◌, inl, inr, subst, All}
use Rattle.std.specs.List.{AllByRecursion}
use Rattle.std.specs.Option.{option_map}
use Rattle.std.proofs.lemmas.Bool.{cases_Bool, eqb-true}
use Rattle.std.proofs.lemmas.List.{length-map}
use Rattle.std.proofs.lemmas.List.Elements.{recursion_from_All}
use Rattle.std.proofs.lemmas.Option.{none-some, same_Some}
use Rattle.market_types.specs.declared.command.Call.{Call}
use Rattle.market_types.specs.declared.command.Cmd.{Cmd}
use Rattle.market_types.specs.declared.command.Cmd.TheVariants as cmd
use Rattle.market_types.specs.declared.reply.Fault.{Fault}
use Rattle.market_types.specs.declared.reply.Fault.TheVariants as fault
use Rattle.market_types.specs.declared.reply.Reply.TheVariants.{Controlled, Requested, Shown}
use Rattle.market_types.specs.State.{Arena, Claim, Control, State}
use Rattle.market_types.specs.Claims.{added_claim, new_claim, request_of}
use Rattle.market_types.specs.Allotment.{need, recall}
use Rattle.market_types.specs.History.{state_after}
use Rattle.market_types.specs.Step.{Outcome, arena_at, control_step, if_arena, if_claim, join_at, join_from, leave_from, open_step, opened, place_of, refuse, request_step, stay_from, step, view_of, with_claim, with_place}
use Rattle.market_rest.specs.Alike.{AreAlike, IsPlain, concerning, concerns, seen_from}

-- another arena, as it is seen
abbrev hidden : Arena → Arena
hidden b = record b { claim = record { slots = 0; reserved = 0; wanted = pos 0; mandatory = 0 } }

module _ (a : ℕ) where
  -- ---- arenas seen from another

  pub seen_own : (b : Arena) → eqb b.number a ≡ true → seen_from a b ≡ b
  seen_own b e = rw e refl

  pub seen_number : (b : Arena) → (seen_from a b).number ≡ b.number
  seen_number b = elim (cases_Bool (eqb b.number a)) [ inl t ↦ rw t refl | inr f ↦ rw f refl ]

  found_seen : (xs : List Arena) → arena_at a (map (seen_from a) xs) ≡ option_map (seen_from a) (arena_at a xs)
  found_seen [] = refl
  found_seen (x ∷ xs) = elim (cases_Bool (eqb x.number a)) [ inl t ↦ rw t (rw t refl) | inr f ↦ rw f (rw f (found_seen xs)) ]

  found_own : (xs : List Arena) (b : Arena) → arena_at a xs ≡ Some b → seen_from a b ≡ b
  found_own [] b e = absurd (none-some b e)
  found_own (x ∷ xs) b e =
      elim (cases_Bool (eqb x.number a)) [
        | inl t ↦ let here : Some x ≡ Some b = rw t at e in seen_own b (ap (λ (y : Arena). eqb y.number a) (sym (same_Some x b here)) ∙ t)
        | inr f ↦ let later : arena_at a xs ≡ Some b = rw f at e in found_own xs b later
      ]

  same_one : (xs ys : List Arena) (o p : Option Arena) → arena_at a xs ≡ o → arena_at a ys ≡ p → option_map (seen_from a) o ≡ option_map (seen_from a) p → o ≡ p
  same_one xs ys None None e f h = refl
  same_one xs ys None (Some y) e f h = absurd (none-some (seen_from a y) h)
  same_one xs ys (Some x) None e f h = absurd (none-some (seen_from a x) (sym h))
  same_one xs ys (Some x) (Some y) e f h = ap Some (sym (found_own xs x e) ∙ (same_Some (seen_from a x) (seen_from a y) h ∙ found_own ys y f))

  same_found : (xs ys : List Arena) → map (seen_from a) xs ≡ map (seen_from a) ys → arena_at a xs ≡ arena_at a ys
  same_found xs ys h = same_one xs ys (arena_at a xs) (arena_at a ys) refl refl (sym (found_seen xs) ∙ (ap (arena_at a) h ∙ found_seen ys))

  -- a claim of its own is seen, and one of another is not
  claim_seen : (c : Claim) (xs : List Arena) → map (seen_from a) (with_claim a c xs) ≡ with_claim a c (map (seen_from a) xs)
  claim_seen c [] = refl
  claim_seen c (x ∷ xs) =
      elim (cases_Bool (eqb x.number a)) [
        | inl t ↦ rw t (rw t (ap (λ l. (record x { claim = c }) ∷ l) (claim_seen c xs)))
        | inr f ↦ rw f (rw f (ap (λ l. hidden x ∷ l) (claim_seen c xs)))
      ]

  claim_unseen : (b : ℕ) (c : Claim) (xs : List Arena) → eqb b a ≡ false → map (seen_from a) (with_claim b c xs) ≡ map (seen_from a) xs
  claim_unseen b c [] other = refl
  claim_unseen b c (x ∷ xs) other =
      elim (cases_Bool (eqb x.number b)) [
        | inl t ↦
            let apart : eqb x.number a ≡ false = ap (λ n. eqb n a) (eqb-true x.number b t) ∙ other in
            rw t (rw apart (ap (λ l. hidden x ∷ l) (claim_unseen b c xs other)))
        | inr f ↦ rw f (ap (λ l. seen_from a x ∷ l) (claim_unseen b c xs other))
      ]

  -- ---- one command

  alike_if : (b c : Bool) (x y z w : Outcome) → b ≡ c → AreAlike a x.1 z.1 → AreAlike a y.1 w.1 → AreAlike a (cond b x y).1 (cond c z w).1
  alike_if true c x y z w e p q = subst (λ (d : Bool). AreAlike a x.1 (cond d z w).1) e p
  alike_if false c x y z w e p q = subst (λ (d : Bool). AreAlike a y.1 (cond d z w).1) e q

  module _ (s t : State) (h : AreAlike a s t) where
    same_length : length s.arenas ≡ length t.arenas
    same_length = sym (length-map s.arenas (seen_from a)) ∙ (ap length h.arenas ∙ length-map t.arenas (seen_from a))

    with_arenas : (xs ys : List Arena) → map (seen_from a) xs ≡ map (seen_from a) ys → AreAlike a (record s { arenas = xs }) (record t { arenas = ys })
    with_arenas xs ys e = record {
      base = h.base;
      hard = h.hard;
      levels = h.levels;
      controls = h.controls;
      last = h.last;
      next_arena = h.next_arena;
      next_control = h.next_control;
      next_stamp = h.next_stamp;
      arenas = e;
    }

    moved_alike : (seat : ℕ) (place : Option ℕ) → AreAlike a (with_place s seat place) t
    moved_alike seat place = record {
      base = h.base;
      hard = h.hard;
      levels = h.levels;
      controls = h.controls;
      last = h.last;
      next_arena = h.next_arena;
      next_control = h.next_control;
      next_stamp = h.next_stamp;
      arenas = h.arenas;
    }

    opened_alike : (level : ℕ) (claim : Claim) → AreAlike a (opened s level claim).1 (opened t level claim).1
    opened_alike level claim = record {
      base = h.base;
      hard = h.hard;
      levels = h.levels;
      controls = h.controls;
      last = h.last;
      next_arena = ap (λ n. n + 1) h.next_arena;
      next_control = h.next_control;
      next_stamp = ap (λ n. n + 1) h.next_stamp;
      arenas = λ i. seen_from a (record { number = h.next_arena i; stamp = h.next_stamp i; level = level; claim = claim }) ∷ h.arenas i;
    }

    open_claimed : (level : ℕ) (claim : Claim)
        → AreAlike a (cond (ltb s.levels level) (refuse s fault.BadLevel) (cond (leb 1024 (length s.arenas)) (refuse s fault.TooManyArenas) (cond (ltb s.last s.next_arena || ltb s.last s.next_stamp) (refuse s fault.OutOfNumbers) (opened s level claim)))).1
        (cond (ltb t.levels level) (refuse t fault.BadLevel) (cond (leb 1024 (length t.arenas)) (refuse t fault.TooManyArenas) (cond (ltb t.last t.next_arena || ltb t.last t.next_stamp) (refuse t fault.OutOfNumbers) (opened t level claim)))).1
    open_claimed level claim =
        let numbers : State → Outcome = λ u. cond (ltb u.last u.next_arena || ltb u.last u.next_stamp) (refuse u fault.OutOfNumbers) (opened u level claim) in
        let living : State → Outcome = λ u. cond (leb 1024 (length u.arenas)) (refuse u fault.TooManyArenas) (numbers u) in
        alike_if (ltb s.levels level) (ltb t.levels level) (refuse s fault.BadLevel) (living s) (refuse t fault.BadLevel) (living t) (ap (λ n. ltb n level) h.levels) h
        (alike_if (leb 1024 (length s.arenas)) (leb 1024 (length t.arenas)) (refuse s fault.TooManyArenas) (numbers s) (refuse t fault.TooManyArenas) (numbers t) (ap (leb 1024) same_length) h
        (alike_if (ltb s.last s.next_arena || ltb s.last s.next_stamp) (ltb t.last t.next_arena || ltb t.last t.next_stamp) (refuse s fault.OutOfNumbers) (opened s level claim) (refuse t fault.OutOfNumbers) (opened t level claim)
        (λ i. ltb (h.last i) (h.next_arena i) || ltb (h.last i) (h.next_stamp i)) h (opened_alike level claim)))

    open_alike : (slots reserved level : ℕ) → AreAlike a (open_step s slots reserved level).1 (open_step t slots reserved level).1
    open_alike slots reserved level = with_result (new_claim slots reserved)
      where
        with_result : (r : Result Claim Fault) → AreAlike a (if_claim s r (λ claim. cond (ltb s.levels level) (refuse s fault.BadLevel) (cond (leb 1024 (length s.arenas)) (refuse s fault.TooManyArenas) (cond (ltb s.last s.next_arena || ltb s.last s.next_stamp) (refuse s fault.OutOfNumbers) (opened s level claim))))).1
            (if_claim t r (λ claim. cond (ltb t.levels level) (refuse t fault.BadLevel) (cond (leb 1024 (length t.arenas)) (refuse t fault.TooManyArenas) (cond (ltb t.last t.next_arena || ltb t.last t.next_stamp) (refuse t fault.OutOfNumbers) (opened t level claim))))).1
        with_result (Ok claim) = open_claimed level claim
        with_result (Err f) = h

    controlled_alike : (value : ℕ) → AreAlike a (record s { controls = s.controls ++ record { number = s.next_control; value = value } ∷ []; next_control = s.next_control + 1 }) (record t { controls = t.controls ++ record { number = t.next_control; value = value } ∷ []; next_control = t.next_control + 1 })
    controlled_alike value = record {
      base = h.base;
      hard = h.hard;
      levels = h.levels;
      controls = λ i. h.controls i ++ record { number = h.next_control i; value = value } ∷ [];
      last = h.last;
      next_arena = h.next_arena;
      next_control = ap (λ n. n + 1) h.next_control;
      next_stamp = h.next_stamp;
      arenas = h.arenas;
    }

    control_alike : (value : ℕ) → AreAlike a (control_step s value).1 (control_step t value).1
    control_alike value =
        let made : State → Outcome = λ u. (Controlled u.next_control, record u { controls = u.controls ++ record { number = u.next_control; value = value } ∷ []; next_control = u.next_control + 1 }) in
        let numbers : State → Outcome = λ u. cond (ltb u.last u.next_control) (refuse u fault.OutOfNumbers) (made u) in
        let living : State → Outcome = λ u. cond (leb 256 (length u.controls)) (refuse u fault.TooManyControls) (numbers u) in
        alike_if (eqb value 0 || ltb 65536 value) (eqb value 0 || ltb 65536 value) (refuse s fault.BadValue) (living s) (refuse t fault.BadValue) (living t) refl h
        (alike_if (leb 256 (length s.controls)) (leb 256 (length t.controls)) (refuse s fault.TooManyControls) (numbers s) (refuse t fault.TooManyControls) (numbers t) (ap (λ (l : List Control). leb 256 (length l)) h.controls) h
        (alike_if (ltb s.last s.next_control) (ltb t.last t.next_control) (refuse s fault.OutOfNumbers) (made s) (refuse t fault.OutOfNumbers) (made t) (λ i. ltb (h.last i) (h.next_control i)) h (controlled_alike value)))

    -- a Request at the arena
    claimed_alike : (r : Result Claim Fault) → AreAlike a (if_claim s r (λ claim. (Requested (request_of claim), record s { arenas = with_claim a claim s.arenas }))).1 (if_claim t r (λ claim. (Requested (request_of claim), record t { arenas = with_claim a claim t.arenas }))).1
    claimed_alike (Err f) = h
    claimed_alike (Ok claim) = with_arenas (with_claim a claim s.arenas) (with_claim a claim t.arenas) (claim_seen claim s.arenas ∙ (ap (with_claim a claim) h.arenas ∙ sym (claim_seen claim t.arenas)))

    at_one : (workers mandatory : ℤ) (o : Option Arena)
        → AreAlike a (if_arena s o (λ arena. if_claim s (added_claim arena.claim workers mandatory) (λ claim. (Requested (request_of claim), record s { arenas = with_claim a claim s.arenas })))).1
        (if_arena t o (λ arena. if_claim t (added_claim arena.claim workers mandatory) (λ claim. (Requested (request_of claim), record t { arenas = with_claim a claim t.arenas })))).1
    at_one workers mandatory None = h
    at_one workers mandatory (Some arena) = claimed_alike (added_claim arena.claim workers mandatory)

    request_alike : (workers mandatory : ℤ) → AreAlike a (request_step s a workers mandatory).1 (request_step t a workers mandatory).1
    request_alike workers mandatory =
        subst
        (λ (o : Option Arena). AreAlike a (request_step s a workers mandatory).1 (if_arena t o (λ arena. if_claim t (added_claim arena.claim workers mandatory) (λ claim. (Requested (request_of claim), record t { arenas = with_claim a claim t.arenas })))).1)
        (same_found s.arenas t.arenas h.arenas) (at_one workers mandatory (arena_at a s.arenas))

    -- and one at another
    other_claimed : (b : ℕ) → eqb b a ≡ false → (r : Result Claim Fault) → AreAlike a (if_claim s r (λ claim. (Requested (request_of claim), record s { arenas = with_claim b claim s.arenas }))).1 t
    other_claimed b other (Err f) = h
    other_claimed b other (Ok claim) = with_arenas (with_claim b claim s.arenas) t.arenas (claim_unseen b claim s.arenas other ∙ h.arenas)

    other_found : (b : ℕ) (workers mandatory : ℤ) → eqb b a ≡ false → (o : Option Arena)
        → AreAlike a (if_arena s o (λ arena. if_claim s (added_claim arena.claim workers mandatory) (λ claim. (Requested (request_of claim), record s { arenas = with_claim b claim s.arenas })))).1 t
    other_found b workers mandatory other None = h
    other_found b workers mandatory other (Some arena) = other_claimed b other (added_claim arena.claim workers mandatory)

    -- a seat moves
    join_needed : (seat : ℕ) (o : Option Arena) → AreAlike a (join_at s seat o).1 t
    join_needed seat None = h
    join_needed seat (Some arena) = moved_alike seat (Some arena.number)

    join_alike : (seat : ℕ) (place : Option ℕ) → AreAlike a (join_from s seat place).1 t
    join_alike seat None = join_needed seat (need s)
    join_alike seat (Some n) = h

    stay_alike : (seat : ℕ) (place : Option ℕ) → AreAlike a (stay_from s seat place).1 t
    stay_alike seat None = h
    stay_alike seat (Some n) = elim (cases_Bool (ltb 0 (recall s n))) [ inl e ↦ rw e (moved_alike seat None) | inr e ↦ rw e h ]

    leave_alike : (seat : ℕ) (place : Option ℕ) → AreAlike a (leave_from s seat place).1 t
    leave_alike seat None = h
    leave_alike seat (Some n) = moved_alike seat None

    show_alike : (o : Option Arena) → AreAlike a (if_arena s o (λ arena. (Shown (view_of s arena), s))).1 t
    show_alike None = h
    show_alike (Some arena) = h

    concerned : (seat : ℕ) (c : Cmd) → concerns a c ≡ true → AreAlike a (step s seat c).1 (step t seat c).1
    concerned seat (cmd.Open slots reserved level) e = open_alike slots reserved level
    concerned seat (cmd.Control value) e = control_alike value
    concerned seat (cmd.Request b workers mandatory) e =
        subst (λ n. AreAlike a (request_step s n workers mandatory).1 (request_step t n workers mandatory).1) (sym (eqb-true b a e)) (request_alike workers mandatory)
    concerned seat (cmd.Close b) e = absurd (true≢false (sym e))
    concerned seat (cmd.Priority b level) e = absurd (true≢false (sym e))
    concerned seat (cmd.Resize b slots reserved) e = absurd (true≢false (sym e))
    concerned seat (cmd.Uncontrol b) e = absurd (true≢false (sym e))
    concerned seat cmd.Join e = absurd (true≢false (sym e))
    concerned seat cmd.Stay e = absurd (true≢false (sym e))
    concerned seat cmd.Leave e = absurd (true≢false (sym e))
    concerned seat (cmd.Show b) e = absurd (true≢false (sym e))
    concerned seat cmd.Lists e = absurd (true≢false (sym e))
    concerned seat cmd.Limit e = absurd (true≢false (sym e))

    unconcerned : (seat : ℕ) (c : Cmd) → IsPlain c → concerns a c ≡ false → AreAlike a (step s seat c).1 t
    unconcerned seat (cmd.Open slots reserved level) plain e = absurd (true≢false e)
    unconcerned seat (cmd.Control value) plain e = absurd (true≢false e)
    unconcerned seat (cmd.Request b workers mandatory) plain e = other_found b workers mandatory e (arena_at b s.arenas)
    unconcerned seat (cmd.Close b) plain e = absurd plain
    unconcerned seat (cmd.Priority b level) plain e = absurd plain
    unconcerned seat (cmd.Resize b slots reserved) plain e = absurd plain
    unconcerned seat (cmd.Uncontrol b) plain e = absurd plain
    unconcerned seat cmd.Join plain e = join_alike seat (place_of s seat)
    unconcerned seat cmd.Stay plain e = stay_alike seat (place_of s seat)
    unconcerned seat cmd.Leave plain e = leave_alike seat (place_of s seat)
    unconcerned seat (cmd.Show b) plain e = show_alike (arena_at b s.arenas)
    unconcerned seat cmd.Lists plain e = h
    unconcerned seat cmd.Limit plain e = h

  -- ---- all calls

  kept_alike : (calls : List Call) (s t : State) → AllByRecursion (λ (c : Call). IsPlain c.cmd) calls → AreAlike a s t → AreAlike a (state_after s calls) (state_after t (concerning a calls))
  kept_alike [] s t plain h = h
  kept_alike (c ∷ calls) s t plain h =
      elim (cases_Bool (concerns a c.cmd)) [
        | inl e ↦ rw e (kept_alike calls (step s c.seat c.cmd).1 (step t c.seat c.cmd).1 plain.1 (concerned s t h c.seat c.cmd e))
        | inr e ↦ rw e (kept_alike calls (step s c.seat c.cmd).1 t plain.1 (unconcerned s t h c.seat c.cmd plain.0 e))
      ]

pub stays_alike : (a : ℕ) (s t : State) (calls : List Call) → All (λ (c : Call). IsPlain c.cmd) calls → AreAlike a s t → AreAlike a (state_after s calls) (state_after t (concerning a calls))
stays_alike a s t calls plain h = kept_alike a calls s t (recursion_from_All (λ (c : Call). IsPlain c.cmd) calls plain) h
