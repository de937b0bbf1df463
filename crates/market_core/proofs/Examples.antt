-- Worked examples of the words that public clauses have: each holds by computation.
use Rattle.std.specs.Prelude.{◌≡◌, pos, true, false, [], ◌∷◌, refl}
use Rattle.market_types.specs.declared.command.Call.{Call}
use Rattle.market_types.specs.declared.command.Cmd.{Cmd}
use Rattle.market_types.specs.declared.command.Cmd.TheVariants.{Open, Close, Priority, Request, Control, Join, Leave, Show, Lists}
use Rattle.market_types.specs.declared.reply.Fault.TheVariants.{NoArena}
use Rattle.market_types.specs.declared.reply.Reply.TheVariants.{Opened, Closed, Moved, Placed, Idle, Left, Refused}
use Rattle.market_types.specs.State.{State, opening}
use Rattle.market_types.specs.History.{state_after}
use Rattle.market_types.specs.Step.{arena_at}
use Rattle.arena_store.specs.Ways.{least_way}
use Rattle.market_core.specs.Allotted.{level_allotment, total_allotment}
use Rattle.market_core.specs.Memory.{takes_memory, is_refusal}
use Rattle.market_core.specs.Visits.{extra_visits, most_visits, most_listed, most_joined, least_extra, least_seen, least_listed, least_visits, lists_all, looks_in_order}

-- ---- memory

open-takes-memory : takes_memory (Open 8 1 1) ≡ true
open-takes-memory = refl

control-takes-memory : takes_memory (Control 4) ≡ true
control-takes-memory = refl

lists-take-memory : takes_memory Lists ≡ true
lists-take-memory = refl

join-takes-none : takes_memory Join ≡ false
join-takes-none = refl

leave-takes-none : takes_memory Leave ≡ false
leave-takes-none = refl

request-takes-none : takes_memory (Request 1 (pos 3) (pos 0)) ≡ false
request-takes-none = refl

a-refusal : is_refusal (Refused NoArena) ≡ true
a-refusal = refl

idle-is-none : is_refusal Idle ≡ false
idle-is-none = refl

-- ---- nodes that are entered

abbrev ask : Cmd → Call
ask cmd = record { seat = 0; cmd = cmd }

-- three arenas ask for five workers each, and there are seven
abbrev three : State
three =
    state_after (opening 8 64 4 3)
    (ask (Open 8 1 2) ∷ ask (Open 8 1 2) ∷ ask (Open 8 1 2) ∷ ask (Request 1 (pos 5) (pos 0)) ∷ ask (Request 2 (pos 5) (pos 0)) ∷ ask (Request 3 (pos 5) (pos 0)) ∷ [])

-- the same where no worker may be active
abbrev none : State
none = state_after three (ask (Control 1) ∷ [])

joins-look : looks_in_order Join ≡ true
joins-look = refl

shows-do-not-look : looks_in_order (Show 1) ≡ false
shows-do-not-look = refl

lists-list : lists_all Lists ≡ true
lists-list = refl

joins-do-not-list : lists_all Join ≡ false
joins-do-not-list = refl

-- three has two binary digits: four times two, and one
most-of-three : most_visits three ≡ 9
most-of-three = refl

-- and where no worker may be active, four more for each of three levels
most-of-none : most_visits none ≡ 21
most-of-none = refl

extra-of-three : extra_visits three ≡ 0
extra-of-three = refl

listed-of-three : most_listed three ≡ 3
listed-of-three = refl

-- a Join looks at the newest arena alone, which has no worker of the two that it is allotted
joined-of-three : most_joined three ≡ 3
joined-of-three = refl

least-of-placed : least_visits three Join (Placed 3) ≡ 1
least-of-placed = refl

-- three arenas stand at level 2: two digits to go down to one of them, and one to put it alone at level 1
least-of-moved : least_visits three (Priority 1 1) Moved ≡ 3
least-of-moved = refl

least-of-left : least_visits three Leave (Left 3) ≡ 0
least-of-left = refl

least-of-closed : least_visits three (Close 2) Closed ≡ 2
least-of-closed = refl

-- with a fourth, three digits
least-of-opened : least_visits three (Open 8 1 2) (Opened 4) ≡ 3
least-of-opened = refl

least-of-seen : least_seen three (arena_at 1 three.arenas) ≡ 2
least-of-seen = refl

-- each is allotted a worker
least-of-listed : least_listed three ≡ 3
least-of-listed = refl

-- where no worker may be active, the level is looked at for enqueued work
least-extra-of-none : least_extra none ≡ 2
least-extra-of-none = refl

way-to-one : least_way 1 ≡ 1
way-to-one = refl

way-to-one-of-twelve : least_way 12 ≡ 4
way-to-one-of-twelve = refl

way-to-one-of-many : least_way 1024 ≡ 4
way-to-one-of-many = refl

-- ---- what is allotted together

allotted-of-three : total_allotment three ≡ 7
allotted-of-three = refl

allotted-to-level : level_allotment three 2 ≡ 7
allotted-to-level = refl

allotted-to-no-arena : level_allotment three 1 ≡ 0
allotted-to-no-arena = refl
