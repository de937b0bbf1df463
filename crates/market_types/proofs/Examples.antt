-- Worked examples of the definitions: each holds by computation.
use Rattle.std.specs.Prelude.{◌≡◌, ℕ, pos, negsuc, Bool, true, false, List, [], ◌∷◌, map, refl}
use Rattle.market_types.specs.declared.command.Cmd.{Cmd}
use Rattle.market_types.specs.declared.command.Cmd.TheVariants.{Open, Close, Priority, Resize, Request, Control as ControlBy, Uncontrol, Join, Stay, Leave, Show, Lists, Limit}
use Rattle.market_types.specs.declared.command.Call.{Call}
use Rattle.market_types.specs.declared.reply.Fault.TheVariants.{BadSlots, BadReserve, OutOfNumbers, NoArena, Busy, WantedRange, MandatoryRange, BadValue, NoControl, AlreadyPlaced, NotPlaced, BadLevel}
use Rattle.market_types.specs.declared.reply.Reply.{Reply}
use Rattle.market_types.specs.declared.reply.Reply.TheVariants.{Opened, Closed, Moved, Resized, Requested, Controlled, Uncontrolled, Placed, Idle, Stays, Recalled, Left, Shown, Listed, Limits, Refused}
use Rattle.market_types.specs.State.{State, opening, opening_to}
use Rattle.market_types.specs.History.{replies_to}

-- ---- short forms

-- base 8, hard limit 64, 4 seats, 3 levels
abbrev start : State
start = opening 8 64 4 3

abbrev by : ℕ → Cmd → Call
by seat cmd = record { seat = seat; cmd = cmd }

-- the replies to commands of seat 0
abbrev answers : State → List Cmd → List Reply
answers s cmds = replies_to s (map (by 0) cmds)

-- more workers wanted, with no enqueued work
abbrev want : ℕ → ℕ → Cmd
want a n = Request a (pos n) (pos 0)

-- an arena where no seat is placed
abbrev shows : ℕ → ℕ → ℕ → Bool → Reply
shows a request allot top =
    Shown (record { arena = a; request = request; allot = allot; top = top; active = 0; recall = 0; hire = allot })

abbrev limits : ℕ → ℕ → ℕ → Reply
limits value limit effective = Limits (record { value = value; limit = limit; effective = effective })

abbrev listed : List (ℕ × ℕ) → List (ℕ × ℕ) → Reply
listed recalls hires = Listed (record { recalls = recalls; hires = hires })

-- ---- demand and shares

nobody_asks : answers start (Lists ∷ Limit ∷ []) ≡ listed [] [] ∷ limits 8 7 7 ∷ []
nobody_asks = refl

one_arena_is_hired_for :
    answers start (Open 8 1 2 ∷ want 1 3 ∷ Show 1 ∷ Lists ∷ [])
    ≡ Opened 1 ∷ Requested 3 ∷ shows 1 3 3 true ∷ listed [] ((1, 3) ∷ []) ∷ []
one_arena_is_hired_for = refl

-- 35 = 2 * 15 + 5, then 35 + 5 = 2 * 15 + 10, then 35 + 10 = 3 * 15
three_arenas_share_seven :
    answers start (Open 8 1 2 ∷ Open 8 1 2 ∷ Open 8 1 2 ∷ want 1 5 ∷ want 2 5 ∷ want 3 5 ∷ Show 3 ∷ Show 2 ∷ Show 1 ∷ [])
    ≡ Opened 1 ∷ Opened 2 ∷ Opened 3 ∷ Requested 5 ∷ Requested 5 ∷ Requested 5
    ∷ shows 3 5 2 true ∷ shows 2 5 2 true ∷ shows 1 5 3 true ∷ []
three_arenas_share_seven = refl

three_levels_in_order :
    answers start (Open 8 1 1 ∷ Open 8 1 2 ∷ Open 8 1 3 ∷ want 1 6 ∷ want 2 5 ∷ want 3 4 ∷ Show 1 ∷ Show 2 ∷ Show 3 ∷ [])
    ≡ Opened 1 ∷ Opened 2 ∷ Opened 3 ∷ Requested 6 ∷ Requested 5 ∷ Requested 4
    ∷ shows 1 6 6 true ∷ shows 2 5 1 false ∷ shows 3 4 0 false ∷ []
three_levels_in_order = refl

five_levels :
    answers (opening 4 64 4 5)
    (Open 8 1 5 ∷ Open 8 1 1 ∷ Open 8 1 3 ∷ want 1 2 ∷ want 2 1 ∷ want 3 1 ∷ Show 1 ∷ Show 3
    ∷ Priority 1 6 ∷ Priority 9 6 ∷ Priority 1 1 ∷ Show 1 ∷ [])
    ≡ Opened 1 ∷ Opened 2 ∷ Opened 3 ∷ Requested 2 ∷ Requested 1 ∷ Requested 1 ∷ shows 1 2 1 false ∷ shows 3 1 1 false
    ∷ Refused BadLevel ∷ Refused BadLevel ∷ Moved ∷ shows 1 2 2 true ∷ []
five_levels = refl

totals_are_clamped_and_not_forgotten :
    answers start
    (Open 8 1 2 ∷ Request 1 (negsuc 2) (pos 0) ∷ want 1 2 ∷ want 1 4
    ∷ Open 8 1 2 ∷ want 2 20 ∷ Request 2 (negsuc 9) (pos 0) ∷ Request 2 (negsuc 4) (pos 0) ∷ [])
    ≡ Opened 1 ∷ Requested 0 ∷ Requested 0 ∷ Requested 3 ∷ Opened 2 ∷ Requested 7 ∷ Requested 7 ∷ Requested 5 ∷ []
totals_are_clamped_and_not_forgotten = refl

numbers_out_of_range :
    answers start
    (Open 8 1 2 ∷ want 1 2147483647 ∷ want 1 2147483647 ∷ Request 1 (pos 2147483647) (negsuc 0)
    ∷ Request 1 (pos 0) (negsuc 0) ∷ Show 1 ∷ Open 0 0 2 ∷ Open 65536 0 2 ∷ Open 2 3 2 ∷ ControlBy 0 ∷ ControlBy 65537 ∷ [])
    ≡ Opened 1 ∷ Requested 7 ∷ Refused WantedRange ∷ Refused WantedRange ∷ Refused MandatoryRange ∷ shows 1 7 7 true
    ∷ Refused BadSlots ∷ Refused BadSlots ∷ Refused BadReserve ∷ Refused BadValue ∷ Refused BadValue ∷ []
numbers_out_of_range = refl

-- ---- controls, and enqueued work at limit 0

a_control_leaves_five :
    answers start
    (ControlBy 6 ∷ Open 8 1 2 ∷ Open 8 1 2 ∷ Open 8 1 2 ∷ want 1 3 ∷ want 3 4 ∷ Show 3 ∷ Show 2 ∷ Show 1 ∷ [])
    ≡ Controlled 1 ∷ Opened 1 ∷ Opened 2 ∷ Opened 3 ∷ Requested 3 ∷ Requested 4
    ∷ shows 3 4 2 true ∷ shows 2 0 0 false ∷ shows 1 3 3 true ∷ []
a_control_leaves_five = refl

the_least_control_counts :
    answers start
    (ControlBy 4 ∷ ControlBy 2 ∷ Limit ∷ Uncontrol 2 ∷ Limit ∷ Uncontrol 1 ∷ Limit ∷ Uncontrol 1 ∷ [])
    ≡ Controlled 1 ∷ Controlled 2 ∷ limits 2 1 1 ∷ Uncontrolled ∷ limits 4 3 3 ∷ Uncontrolled ∷ limits 8 7 7
    ∷ Refused NoControl ∷ []
the_least_control_counts = refl

enqueued_work_at_limit_0 :
    answers start
    (ControlBy 1 ∷ Limit ∷ Open 8 1 2 ∷ Open 8 1 2 ∷ want 1 2 ∷ Show 1 ∷ Request 1 (pos 0) (pos 1)
    ∷ Request 2 (pos 2) (pos 1) ∷ Limit ∷ Show 2 ∷ Show 1 ∷ Request 2 (negsuc 1) (pos 0)
    ∷ Request 1 (pos 0) (negsuc 0) ∷ Limit ∷ Show 1 ∷ Show 2 ∷ [])
    ≡ Controlled 1 ∷ limits 1 0 0 ∷ Opened 1 ∷ Opened 2 ∷ Requested 2 ∷ shows 1 2 0 true ∷ Requested 2 ∷ Requested 2
    ∷ limits 1 0 1 ∷ shows 2 2 1 true ∷ shows 1 2 0 true ∷ Requested 0 ∷ Requested 2 ∷ limits 1 0 1
    ∷ shows 1 2 0 true ∷ shows 2 0 0 false ∷ []
enqueued_work_at_limit_0 = refl

enqueued_work_below_the_top_level :
    answers start
    (ControlBy 1 ∷ Open 8 1 1 ∷ Open 8 1 3 ∷ want 1 2 ∷ Request 2 (pos 1) (pos 1) ∷ Show 1 ∷ Show 2 ∷ [])
    ≡ Controlled 1 ∷ Opened 1 ∷ Opened 2 ∷ Requested 2 ∷ Requested 1 ∷ shows 1 2 0 true ∷ shows 2 1 1 false ∷ []
enqueued_work_below_the_top_level = refl

a_reserved_slot_and_enqueued_work :
    answers start
    (Open 1 1 2 ∷ want 1 5 ∷ Request 1 (pos 0) (pos 1) ∷ Show 1 ∷ Open 2 2 2 ∷ Request 2 (pos 5) (pos 1) ∷ Show 2 ∷ [])
    ≡ Opened 1 ∷ Requested 0 ∷ Requested 1 ∷ shows 1 1 1 true ∷ Opened 2 ∷ Requested 0 ∷ shows 2 0 0 false ∷ []
a_reserved_slot_and_enqueued_work = refl

-- ---- numbers that run out

-- base 8, hard limit 64, 4 seats, 3 levels, and 3 as the last number
abbrev to_three : State
to_three = opening_to 8 64 4 3 3

no_fourth_arena :
    answers to_three
    (Open 8 1 2 ∷ Close 1 ∷ Open 8 1 2 ∷ Close 2 ∷ Open 8 1 2 ∷ Close 3 ∷ Open 8 1 2 ∷ Open 8 1 4 ∷ ControlBy 6 ∷ [])
    ≡ Opened 1 ∷ Closed ∷ Opened 2 ∷ Closed ∷ Opened 3 ∷ Closed ∷ Refused OutOfNumbers ∷ Refused BadLevel ∷ Controlled 1 ∷ []
no_fourth_arena = refl

-- an arena that is opened gets a stamp, as one that is moved does
no_fourth_stamp :
    answers to_three
    (Open 8 1 2 ∷ Priority 1 3 ∷ Priority 1 1 ∷ Priority 1 2 ∷ Priority 2 2 ∷ Open 8 1 2 ∷ Close 1 ∷ ControlBy 6 ∷ [])
    ≡ Opened 1 ∷ Moved ∷ Moved ∷ Refused OutOfNumbers ∷ Refused NoArena ∷ Refused OutOfNumbers ∷ Closed ∷ Controlled 1 ∷ []
no_fourth_stamp = refl

no_fourth_control :
    answers to_three
    (ControlBy 6 ∷ Uncontrol 1 ∷ ControlBy 5 ∷ Uncontrol 2 ∷ ControlBy 4 ∷ ControlBy 3 ∷ Limit ∷ ControlBy 0 ∷ Open 8 1 2 ∷ [])
    ≡ Controlled 1 ∷ Uncontrolled ∷ Controlled 2 ∷ Uncontrolled ∷ Controlled 3 ∷ Refused OutOfNumbers ∷ limits 4 3 3
    ∷ Refused BadValue ∷ Opened 1 ∷ []
no_fourth_control = refl

-- ---- arenas moved, closed and resized

moved_within_its_level :
    answers start
    (Open 8 1 2 ∷ Open 8 1 2 ∷ Open 8 1 2 ∷ want 1 5 ∷ want 2 5 ∷ want 3 5 ∷ Priority 1 2 ∷ Show 1 ∷ Show 3 ∷ Show 2 ∷ [])
    ≡ Opened 1 ∷ Opened 2 ∷ Opened 3 ∷ Requested 5 ∷ Requested 5 ∷ Requested 5 ∷ Moved
    ∷ shows 1 5 2 true ∷ shows 3 5 2 true ∷ shows 2 5 3 true ∷ []
moved_within_its_level = refl

moved_down_and_closed :
    answers start
    (Open 8 1 2 ∷ Open 8 1 1 ∷ want 1 5 ∷ want 2 4 ∷ Show 1 ∷ Priority 2 3 ∷ Show 1 ∷ Close 1 ∷ Show 2 ∷ Show 1
    ∷ Priority 1 3 ∷ Open 8 1 2 ∷ [])
    ≡ Opened 1 ∷ Opened 2 ∷ Requested 5 ∷ Requested 4 ∷ shows 1 5 3 false ∷ Moved ∷ shows 1 5 5 true ∷ Closed
    ∷ shows 2 4 4 true ∷ Refused NoArena ∷ Refused NoArena ∷ Opened 3 ∷ []
moved_down_and_closed = refl

resized_with_a_placed_seat :
    answers start
    (Open 8 1 2 ∷ want 1 20 ∷ Join ∷ Resize 1 3 1 ∷ Show 1 ∷ Resize 1 1 1 ∷ Lists ∷ Resize 1 8 1 ∷ Resize 1 2 3
    ∷ Resize 9 0 0 ∷ Resize 9 4 1 ∷ [])
    ≡ Opened 1 ∷ Requested 7 ∷ Placed 1 ∷ Resized 2
    ∷ Shown (record { arena = 1; request = 2; allot = 2; top = true; active = 1; recall = 0; hire = 1 })
    ∷ Resized 0 ∷ listed ((1, 1) ∷ []) [] ∷ Resized 7 ∷ Refused BadReserve ∷ Refused BadSlots ∷ Refused NoArena ∷ []
resized_with_a_placed_seat = refl

-- ---- seats

joins_and_a_recall :
    replies_to start
    (by 0 (Open 8 1 2) ∷ by 0 (want 1 2) ∷ by 0 Join ∷ by 1 Join ∷ by 2 Join ∷ by 0 Lists
    ∷ by 0 (Request 1 (negsuc 0) (pos 0)) ∷ by 0 Lists ∷ by 0 Stay ∷ by 1 Stay ∷ by 0 Stay ∷ by 1 Join ∷ [])
    ≡ Opened 1 ∷ Requested 2 ∷ Placed 1 ∷ Placed 1 ∷ Idle ∷ listed [] [] ∷ Requested 1 ∷ listed ((1, 1) ∷ []) []
    ∷ Recalled 1 ∷ Stays 1 ∷ Refused NotPlaced ∷ Refused (AlreadyPlaced 1) ∷ []
joins_and_a_recall = refl

left_then_closed :
    replies_to start
    (by 0 (Open 8 1 2) ∷ by 0 (want 1 1) ∷ by 0 Join ∷ by 1 (Close 1) ∷ by 0 Leave ∷ by 0 Leave ∷ by 0 (Close 1)
    ∷ by 0 (Show 1) ∷ by 0 (Open 8 1 2) ∷ [])
    ≡ Opened 1 ∷ Requested 1 ∷ Placed 1 ∷ Refused (Busy 1) ∷ Left 1 ∷ Refused NotPlaced ∷ Closed ∷ Refused NoArena
    ∷ Opened 2 ∷ []
left_then_closed = refl

a_high_arena_takes_a_worker_of_a_low_one :
    replies_to (opening 3 64 4 3)
    (by 0 (Open 8 1 3) ∷ by 0 (want 1 2) ∷ by 0 Join ∷ by 1 Join ∷ by 2 (Open 8 1 1) ∷ by 2 (want 2 1) ∷ by 0 Lists
    ∷ by 0 Stay ∷ by 0 Join ∷ by 0 Lists ∷ [])
    ≡ Opened 1 ∷ Requested 2 ∷ Placed 1 ∷ Placed 1 ∷ Opened 2 ∷ Requested 1 ∷ listed ((1, 1) ∷ []) ((2, 1) ∷ [])
    ∷ Recalled 1 ∷ Placed 2 ∷ listed [] [] ∷ []
a_high_arena_takes_a_worker_of_a_low_one = refl
