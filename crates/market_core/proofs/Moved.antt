-- What a step does to the seats, and what it keeps of the opening.
use Rattle.std.specs.Prelude.{slice_get, nat_le, ◌==◌, ◌||◌, ◌+◌, length}
use Rattle.std.proofs.Common.{unwrap_or, ◌≡◌, ℕ, zero, suc, Bool, true, false, cond, List, [], ◌∷◌, ◌++◌, set, Option, Some, None, Result, Ok, Err, refl, ap, sym, ◌∙◌, inl, inr, nat_lt}
use Rattle.std.proofs.lemmas.List.{length-set}
use Rattle.market_types.specs.declared.command.Cmd.{Cmd}
use Rattle.market_types.specs.declared.command.Cmd.TheVariants.{Open, Close, Priority, Resize, Request, Control, Uncontrol, Join, Stay, Leave, Show, Lists, Limit}
use Rattle.market_types.specs.declared.reply.Fault.{Fault}
use Rattle.market_types.specs.declared.reply.Fault.TheVariants.{BadLevel, TooManyArenas, OutOfNumbers, BadValue, TooManyControls}
use Rattle.market_types.specs.declared.reply.Reply.{Reply}
use Rattle.market_types.specs.declared.reply.Reply.TheVariants.{Opened, Closed, Moved, Resized, Requested, Controlled, Uncontrolled, Placed, Idle, Stays, Recalled, Left, Shown, Listed, Limits, Refused}
use Rattle.market_types.specs.Claims.{new_claim, added_claim}
use Rattle.market_types.specs.Commands.{moves_seat}
use Rattle.market_types.specs.Replies.{is_listed}
use Rattle.market_types.specs.State.{Claim, Arena, State}
use Rattle.market_types.specs.Allotment.{need, recall}
use Rattle.market_types.specs.Step.{Outcome, counts_of, refuse, if_arena, if_claim, arena_at, opened, moved, open_step, close_step, priority_step, resize_step, request_step, control_step, uncontrol_step, place_of, with_place, join_from, stay_from, leave_from, show_step, step}
use Rattle.market_types.specs.History.{place_after}
use Rattle.market_core.specs.Moves.{moves, Answers}

-- what a step of a seat that is placed there leaves
pub record Steps (s : State) (seat : ℕ) (cmd : Cmd) (arena : Option ℕ) (o : Outcome) : Type 0 where
  pub base : o.1.base ≡ s.base
  pub hard : o.1.hard ≡ s.hard
  pub levels : o.1.levels ≡ s.levels
  pub last : o.1.last ≡ s.last
  pub seats : o.1.seats ≡ set s.seats seat (place_after arena o.0)
  pub answers : Answers arena cmd o.0
  pub listed : is_listed o.0 ≡ true → o ≡ (Listed (counts_of s), s)

-- ---- commands that move no seat

-- what a command leaves that moves no seat
pub record Quiet (s : State) (o : Outcome) : Type 0 where
  pub base : o.1.base ≡ s.base
  pub hard : o.1.hard ≡ s.hard
  pub levels : o.1.levels ≡ s.levels
  pub last : o.1.last ≡ s.last
  pub seats : o.1.seats ≡ s.seats
  pub quiet : moves o.0 ≡ false
  pub listed : is_listed o.0 ≡ true → o ≡ (Listed (counts_of s), s)

-- a reply that is no lists is not taken for them
unlisted : {T : Type 0} (r : Reply) → is_listed r ≡ false → is_listed r ≡ true → T
unlisted r none listed = absurd (let false_true : false ≡ true = sym none ∙ listed in cc)

quiet-same : (s : State) (r : Reply) → moves r ≡ false → is_listed r ≡ false → Quiet s (r, s)
quiet-same s r e f = record { base = refl; hard = refl; levels = refl; last = refl; seats = refl; quiet = e; listed = unlisted r f }

quiet-if : (s : State) (b : Bool) (x y : Outcome) → Quiet s x → Quiet s y → Quiet s (cond b x y)
quiet-if s true x y h k = h
quiet-if s false x y h k = k

quiet-arena : (s : State) (o : Option Arena) (f : Arena → Outcome) → ((a : Arena) → Quiet s (f a)) → Quiet s (if_arena s o f)
quiet-arena s None f h = quiet-same s (Refused _) refl refl
quiet-arena s (Some a) f h = h a

quiet-claim : (s : State) (r : Result Claim Fault) (f : Claim → Outcome) → ((c : Claim) → Quiet s (f c)) → Quiet s (if_claim s r f)
quiet-claim s (Err fault) f h = quiet-same s (Refused fault) refl refl
quiet-claim s (Ok c) f h = h c

quiet-changed : (s t : State) (r : Reply) → t.base ≡ s.base → t.hard ≡ s.hard → t.levels ≡ s.levels → t.last ≡ s.last → t.seats ≡ s.seats → moves r ≡ false → is_listed r ≡ false → Quiet s (r, t)
quiet-changed s t r b h l k m e f = record { base = b; hard = h; levels = l; last = k; seats = m; quiet = e; listed = unlisted r f }

open-quiet : (s : State) (slots reserved level : ℕ) → Quiet s (open_step s slots reserved level)
open-quiet s slots reserved level =
    quiet-claim s (new_claim slots reserved) _ (λ claim.
    quiet-if s (nat_lt s.levels level) _ _ (quiet-same s (Refused BadLevel) refl refl)
    (quiet-if s (nat_le 1024 (length s.arenas)) _ _ (quiet-same s (Refused TooManyArenas) refl refl)
    (quiet-if s (nat_lt s.last s.next_arena || nat_lt s.last s.next_stamp) _ _ (quiet-same s (Refused OutOfNumbers) refl refl)
    (quiet-changed s (opened s level claim).1 (Opened s.next_arena) refl refl refl refl refl refl refl))))

close-quiet : (s : State) (a : ℕ) → Quiet s (close_step s a)
close-quiet s a =
    quiet-arena s (arena_at a s.arenas) _ (λ _. quiet-if s _ _ _ (quiet-same s (Refused _) refl refl) (quiet-changed s _ Closed refl refl refl refl refl refl refl))

priority-quiet : (s : State) (a level : ℕ) → Quiet s (priority_step s a level)
priority-quiet s a level =
    quiet-if s _ _ _ (quiet-same s (Refused _) refl refl)
    (quiet-arena s (arena_at a s.arenas) _ (λ arena. quiet-if s _ _ _ (quiet-same s (Refused _) refl refl) (quiet-changed s (moved s level arena).1 Moved refl refl refl refl refl refl refl)))

resize-quiet : (s : State) (a slots reserved : ℕ) → Quiet s (resize_step s a slots reserved)
resize-quiet s a slots reserved =
    quiet-claim s (new_claim slots reserved) _ (λ _. quiet-arena s (arena_at a s.arenas) _ (λ arena. quiet-changed s _ (Resized _) refl refl refl refl refl refl refl))

request-quiet : (s : State) (a : ℕ) (workers mandatory : _) → Quiet s (request_step s a workers mandatory)
request-quiet s a workers mandatory =
    quiet-arena s (arena_at a s.arenas) _ (λ arena. quiet-claim s (added_claim arena.claim workers mandatory) _ (λ claim. quiet-changed s _ (Requested _) refl refl refl refl refl refl refl))

-- the market with one control more
abbrev controlled : State → ℕ → State
controlled s value =
    record s { controls = s.controls ++ record { number = s.next_control; value = value } ∷ []; next_control = s.next_control + 1 }

control-quiet : (s : State) (value : ℕ) → Quiet s (control_step s value)
control-quiet s value =
    quiet-if s ((value == 0) || nat_lt 65536 value) _ _ (quiet-same s (Refused BadValue) refl refl)
    (quiet-if s (nat_le 256 (length s.controls)) _ _ (quiet-same s (Refused TooManyControls) refl refl)
    (quiet-if s (nat_lt s.last s.next_control) _ _ (quiet-same s (Refused OutOfNumbers) refl refl)
    (quiet-changed s (controlled s value) (Controlled s.next_control) refl refl refl refl refl refl refl)))

uncontrol-quiet : (s : State) (c : ℕ) → Quiet s (uncontrol_step s c)
uncontrol-quiet s c = quiet-if s _ _ _ (quiet-changed s _ Uncontrolled refl refl refl refl refl refl refl) (quiet-same s (Refused _) refl refl)

show-quiet : (s : State) (a : ℕ) → Quiet s (show_step s a)
show-quiet s a = quiet-arena s (arena_at a s.arenas) _ (λ arena. quiet-same s (Shown _) refl refl)

pub quiet : (s : State) (seat : ℕ) (cmd : Cmd) → moves_seat cmd ≡ false → Quiet s (step s seat cmd)
quiet s seat (Open slots reserved level) e = open-quiet s slots reserved level
quiet s seat (Close a) e = close-quiet s a
quiet s seat (Priority a level) e = priority-quiet s a level
quiet s seat (Resize a slots reserved) e = resize-quiet s a slots reserved
quiet s seat (Request a workers mandatory) e = request-quiet s a workers mandatory
quiet s seat (Control value) e = control-quiet s value
quiet s seat (Uncontrol c) e = uncontrol-quiet s c
quiet s seat (Show a) e = show-quiet s a
quiet s seat Lists e = record { base = refl; hard = refl; levels = refl; last = refl; seats = refl; quiet = refl; listed = λ _. refl }
quiet s seat Limit e = quiet-same s (Limits _) refl refl
quiet s seat Join e = absurd (let f : true ≡ false = e in cc)
quiet s seat Stay e = absurd (let f : true ≡ false = e in cc)
quiet s seat Leave e = absurd (let f : true ≡ false = e in cc)

-- ---- a seat

set-self : (l : List (Option ℕ)) (k : ℕ) (p : Option ℕ) → unwrap_or (slice_get l k) None ≡ p → set l k p ≡ l
set-self [] k p e = refl
set-self (y ∷ ys) zero p e = ap (λ x. x ∷ ys) (sym e)
set-self (y ∷ ys) (suc k) p e = ap (λ l. y ∷ l) (set-self ys k p e)

-- a reply that moves no seat
pub stays : (p : Option ℕ) (r : Reply) → moves r ≡ false → place_after p r ≡ p
stays p (Placed a) e = absurd (let f : true ≡ false = e in cc)
stays p (Recalled a) e = absurd (let f : true ≡ false = e in cc)
stays p (Left a) e = absurd (let f : true ≡ false = e in cc)
stays p _ e = refl

quiet-answers : (cmd : Cmd) → moves_seat cmd ≡ false → (p : Option ℕ) (r : Reply) → moves r ≡ false → Answers p cmd r
quiet-answers Join q p r e = absurd (let f : true ≡ false = q in cc)
quiet-answers Stay q p r e = absurd (let f : true ≡ false = q in cc)
quiet-answers Leave q p r e = absurd (let f : true ≡ false = q in cc)
quiet-answers _ q None r e = e
quiet-answers _ q (Some a) r e = e

quiet-steps : (s : State) (seat : ℕ) (cmd : Cmd) (p : Option ℕ) (o : Outcome) → place_of s seat ≡ p → moves_seat cmd ≡ false → Quiet s o → Steps s seat cmd p o
quiet-steps s seat cmd p o at q h =
    record {
      base = h.base;
      hard = h.hard;
      levels = h.levels;
      last = h.last;
      seats = h.seats ∙ sym (set-self s.seats seat p at) ∙ ap (set s.seats seat) (sym (stays p o.0 h.quiet));
      answers = quiet-answers cmd q p o.0 h.quiet;
      listed = h.listed;
    }

-- a refusal of a command that moves seats
refused-steps : (s : State) (seat : ℕ) (cmd : Cmd) (p : Option ℕ) (fault : Fault) → place_of s seat ≡ p → Answers p cmd (Refused fault) → Steps s seat cmd p (refuse s fault)
refused-steps s seat cmd p fault at answers =
    record { base = refl; hard = refl; levels = refl; last = refl; seats = sym (set-self s.seats seat p at); answers = answers; listed = unlisted (Refused fault) refl }

join-steps : (s : State) (seat : ℕ) (p : Option ℕ) (o : Option Arena) → place_of s seat ≡ p → need s ≡ o → Steps s seat Join p (join_from s seat p)
join-steps s seat (Some a) o at found = refused-steps s seat Join (Some a) _ at refl
join-steps s seat None None at found =
    rw found record { base = refl; hard = refl; levels = refl; last = refl; seats = sym (set-self s.seats seat None at); answers = inl refl; listed = unlisted Idle refl }
join-steps s seat None (Some arena) at found =
    rw found record { base = refl; hard = refl; levels = refl; last = refl; seats = refl; answers = inr (arena.number, refl); listed = unlisted (Placed arena.number) refl }

stay-if : (s : State) (seat a : ℕ) (b : Bool) → place_of s seat ≡ Some a → Steps s seat Stay (Some a) (cond b (Recalled a, with_place s seat None) (Stays a, s))
stay-if s seat a true at = record { base = refl; hard = refl; levels = refl; last = refl; seats = refl; answers = inr refl; listed = unlisted (Recalled a) refl }
stay-if s seat a false at = record { base = refl; hard = refl; levels = refl; last = refl; seats = sym (set-self s.seats seat (Some a) at); answers = inl refl; listed = unlisted (Stays a) refl }

stay-steps : (s : State) (seat : ℕ) (p : Option ℕ) → place_of s seat ≡ p → Steps s seat Stay p (stay_from s seat p)
stay-steps s seat None at = refused-steps s seat Stay None _ at refl
stay-steps s seat (Some a) at = stay-if s seat a (nat_lt 0 (recall s a)) at

leave-steps : (s : State) (seat : ℕ) (p : Option ℕ) → place_of s seat ≡ p → Steps s seat Leave p (leave_from s seat p)
leave-steps s seat None at = refused-steps s seat Leave None _ at refl
leave-steps s seat (Some a) at = record { base = refl; hard = refl; levels = refl; last = refl; seats = refl; answers = refl; listed = unlisted (Left a) refl }

pub steps : (s : State) (seat : ℕ) (cmd : Cmd) → Steps s seat cmd (place_of s seat) (step s seat cmd)
steps s seat Join = join-steps s seat (place_of s seat) (need s) refl refl
steps s seat Stay = stay-steps s seat (place_of s seat) refl
steps s seat Leave = leave-steps s seat (place_of s seat) refl
steps s seat cmd = quiet-steps s seat cmd (place_of s seat) (step s seat cmd) refl refl (quiet s seat cmd refl)

-- no command changes how many seats there are
pub same_seats : (s : State) (seat : ℕ) (cmd : Cmd) → length (step s seat cmd).1.seats ≡ length s.seats
same_seats s seat cmd = ap length (steps s seat cmd).seats ∙ length-set s.seats seat (place_after (place_of s seat) (step s seat cmd).0)
