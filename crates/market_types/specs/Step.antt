-- What each command is answered, and what the market is after it. The first refusal that applies is the answer (own).
use Rattle.std.specs.Prelude.{ℕ, ◌+◌, ℤ, ◌||◌, not, nat_lt, nat_le, ◌==◌, if◌then◌else◌, List, [], ◌∷◌, ◌++◌, map, length, Option, Some, None, unwrap_or, slice_get, slice_set, Result, Ok, Err}
use Rattle.std.specs.List.{filter, find, list_any}
use Rattle.market_types.specs.declared.command.Cmd.{Cmd}
use Rattle.market_types.specs.declared.command.Cmd.TheVariants.{Open, Close, Priority, Resize, Request, Control as ControlBy, Uncontrol, Join, Stay, Leave, Show, Lists, Limit}
use Rattle.market_types.specs.declared.reply.Fault.{Fault}
use Rattle.market_types.specs.declared.reply.Fault.TheVariants.{TooManyArenas, OutOfNumbers, NoArena, Busy, BadValue, TooManyControls, NoControl, AlreadyPlaced, NotPlaced, BadLevel}
use Rattle.market_types.specs.declared.reply.ArenaView.{ArenaView}
use Rattle.market_types.specs.declared.reply.LimitView.{LimitView}
use Rattle.market_types.specs.declared.reply.Reply.{Reply}
use Rattle.market_types.specs.declared.reply.Reply.TheVariants.{Opened, Closed, Moved, Resized, Requested, Controlled, Uncontrolled, Placed, Idle, Stays, Recalled, Left, Shown, Listed, Limits, Refused}
use Rattle.market_types.specs.Counts.{Counts}
use Rattle.market_types.specs.Claims.{new_claim, with_slots, added_claim, request_of}
use Rattle.market_types.specs.State.{Claim, Arena, Control, State}
use Rattle.market_types.specs.Allotment.{active_value, limit_of, effective_limit_of, in_order, allotment_of, is_top, active, recall, hire, need}

-- a reply, and the market after it
abbrev pub Outcome : Type 0
Outcome = Reply × State

-- a refusal changes nothing
abbrev pub refuse : State → Fault → Outcome
refuse s fault = (Refused fault, s)

-- ---- arenas by number

abbrev pub arena_at : ℕ → List Arena → Option Arena
arena_at a arenas = find (λ (b : Arena). b.number == a) arenas

abbrev pub without : ℕ → List Arena → List Arena
without a arenas = filter (λ (b : Arena). not (b.number == a)) arenas

-- the arena's claim becomes `claim`, at its place
abbrev pub with_claim : ℕ → Claim → List Arena → List Arena
with_claim a claim arenas = map (λ (b : Arena). if b.number == a then record b { claim = claim } else b) arenas

-- on with the living arena, or the refusal where there is none
abbrev pub if_arena : State → Option Arena → (Arena → Outcome) → Outcome
if_arena s None f = refuse s NoArena
if_arena s (Some arena) f = f arena

-- on with the claim, or its refusal
abbrev pub if_claim : State → Result Claim Fault → (Claim → Outcome) → Outcome
if_claim s (Err fault) f = refuse s fault
if_claim s (Ok claim) f = f claim

-- ---- Open, Close, Priority, Resize, Request

-- a new arena with this claim comes first
abbrev pub opened : State → ℕ → Claim → Outcome
opened s level claim = (
  Opened s.next_arena,
  record s {
    arenas = record { number = s.next_arena; stamp = s.next_stamp; level = level; claim = claim } ∷ s.arenas;
    next_arena = s.next_arena + 1;
    next_stamp = s.next_stamp + 1;
  },
)

abbrev pub open_step : State → ℕ → ℕ → ℕ → Outcome
open_step s slots reserved level =
    if_claim s (new_claim slots reserved) (λ claim.
    if nat_lt s.levels level then refuse s BadLevel
    else if nat_le 1024 (length s.arenas) then refuse s TooManyArenas
    else if nat_lt s.last s.next_arena || nat_lt s.last s.next_stamp then refuse s OutOfNumbers
    else opened s level claim)

-- the arena goes, unless a seat is placed at it
abbrev pub close_step : State → ℕ → Outcome
close_step s a =
    if_arena s (arena_at a s.arenas) (λ _.
    if nat_lt 0 (active s a) then refuse s (Busy (active s a))
    else (Closed, record s { arenas = without a s.arenas }))

-- the arena comes first, in this level
abbrev pub moved : State → ℕ → Arena → Outcome
moved s level arena = (
  Moved,
  record s {
    arenas = record arena { stamp = s.next_stamp; level = level } ∷ without arena.number s.arenas;
    next_stamp = s.next_stamp + 1;
  },
)

abbrev pub priority_step : State → ℕ → ℕ → Outcome
priority_step s a level =
    if nat_lt s.levels level then refuse s BadLevel
    else if_arena s (arena_at a s.arenas) (λ arena.
    if nat_lt s.last s.next_stamp then refuse s OutOfNumbers
    else moved s level arena)

-- the arena keeps its place and its totals; slots that no arena can have are refused before a missing arena
abbrev pub resize_step : State → ℕ → ℕ → ℕ → Outcome
resize_step s a slots reserved =
    if_claim s (new_claim slots reserved) (λ _.
    if_arena s (arena_at a s.arenas) (λ arena. (
      Resized (request_of (with_slots arena.claim slots reserved)),
      record s { arenas = with_claim a (with_slots arena.claim slots reserved) s.arenas },
    )))

abbrev pub request_step : State → ℕ → ℤ → ℤ → Outcome
request_step s a workers mandatory =
    if_arena s (arena_at a s.arenas) (λ arena.
    if_claim s (added_claim arena.claim workers mandatory) (λ claim.
    (Requested (request_of claim), record s { arenas = with_claim a claim s.arenas })))

-- ---- Control, Uncontrol

abbrev pub control_step : State → ℕ → Outcome
control_step s value =
    if value == 0 || nat_lt 65536 value then refuse s BadValue
    else if nat_le 256 (length s.controls) then refuse s TooManyControls
    else if nat_lt s.last s.next_control then refuse s OutOfNumbers
    else (
      Controlled s.next_control,
      record s {
        controls = s.controls ++ record { number = s.next_control; value = value } ∷ [];
        next_control = s.next_control + 1;
      },
    )

abbrev pub uncontrol_step : State → ℕ → Outcome
uncontrol_step s c =
    if list_any (λ (d : Control). d.number == c) s.controls
    then (Uncontrolled, record s { controls = filter (λ (d : Control). not (d.number == c)) s.controls })
    else refuse s NoControl

-- ---- Join, Stay, Leave

-- the arena that a seat is placed at
abbrev pub place_of : State → ℕ → Option ℕ
place_of s seat = unwrap_or (slice_get s.seats seat) None

abbrev pub with_place : State → ℕ → Option ℕ → State
with_place s seat place = record s { seats = slice_set s.seats seat place }

-- an unplaced seat goes to the arena in need
abbrev pub join_at : State → ℕ → Option Arena → Outcome
join_at s seat None = (Idle, s)
join_at s seat (Some arena) = (Placed arena.number, with_place s seat (Some arena.number))

abbrev pub join_from : State → ℕ → Option ℕ → Outcome
join_from s seat None = join_at s seat (need s)
join_from s seat (Some a) = refuse s (AlreadyPlaced a)

abbrev pub stay_from : State → ℕ → Option ℕ → Outcome
stay_from s seat None = refuse s NotPlaced
stay_from s seat (Some a) =
    if nat_lt 0 (recall s a) then (Recalled a, with_place s seat None) else (Stays a, s)

abbrev pub leave_from : State → ℕ → Option ℕ → Outcome
leave_from s seat None = refuse s NotPlaced
leave_from s seat (Some a) = (Left a, with_place s seat None)

-- ---- Show, Lists, Limit

-- what is seen of an arena
abbrev pub view_of : State → Arena → ArenaView
view_of s arena =
    record {
      arena = arena.number;
      request = request_of arena.claim;
      allot = allotment_of s arena.number;
      top = is_top s arena;
      active = active s arena.number;
      recall = recall s arena.number;
      hire = hire s arena.number;
    }

abbrev pub show_step : State → ℕ → Outcome
show_step s a = if_arena s (arena_at a s.arenas) (λ arena. (Shown (view_of s arena), s))

-- the arenas in order at which a count is above 0, with it
abbrev pub above_zero : (ℕ → ℕ) → List Arena → List (ℕ × ℕ)
above_zero count arenas =
    filter (λ (e : ℕ × ℕ). nat_lt 0 e.1) (map (λ (a : Arena). (a.number, count a.number)) arenas)

abbrev pub counts_of : State → Counts
counts_of s =
    record { recalls = above_zero (recall s) (in_order s); hires = above_zero (hire s) (in_order s) }

abbrev pub limits_of : State → LimitView
limits_of s =
    record { value = active_value s.base s.controls; limit = limit_of s; effective = effective_limit_of s }

-- ---- every command

-- what the market answers a seat, and what it is afterwards
abbrev pub step : State → ℕ → Cmd → Outcome
step s seat (Open slots reserved level) = open_step s slots reserved level
step s seat (Close a) = close_step s a
step s seat (Priority a level) = priority_step s a level
step s seat (Resize a slots reserved) = resize_step s a slots reserved
step s seat (Request a workers mandatory) = request_step s a workers mandatory
step s seat (ControlBy value) = control_step s value
step s seat (Uncontrol c) = uncontrol_step s c
step s seat Join = join_from s seat (place_of s seat)
step s seat Stay = stay_from s seat (place_of s seat)
step s seat Leave = leave_from s seat (place_of s seat)
step s seat (Show a) = show_step s a
step s seat Lists = (Listed (counts_of s), s)
step s seat Limit = (Limits (limits_of s), s)
