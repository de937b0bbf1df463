-- How many visits a command makes: a node of k keys that is entered counts as many as k has binary digits, a run of k sums in one node that
-- is passed over the same, a row that is looked at one (own).
use Rattle.std.specs.Prelude.{ℕ, zero, suc, Bool, true, false, Option, None, Some, List, ◌+◌, ◌*◌, ◌≤◌, ◌==◌, length, is_some, min, max, if◌then◌else◌}
use Rattle.std.specs.List.{count_by}
use Rattle.market_types.specs.declared.command.Cmd.{Cmd}
use Rattle.market_types.specs.declared.command.Cmd.TheVariants.{Open, Close, Priority, Resize, Request, Join, Stay, Show, Lists}
use Rattle.market_types.specs.declared.reply.Reply.{Reply}
use Rattle.market_types.specs.declared.reply.Reply.TheVariants.{Opened, Closed, Moved, Resized, Requested, Placed, Idle, Stays, Recalled, Shown, Listed}
use Rattle.market_types.specs.State.{State, Arena}
use Rattle.market_types.specs.Claims.{request_of}
use Rattle.market_types.specs.Step.{arena_at, without}
use Rattle.market_types.specs.Allotment.{limit_of, at_level}
use Rattle.recall_hire.specs.Staffed.{rows_of, searches, looks}
use Rattle.arena_store.specs.Bits.{bits}
use Rattle.arena_store.specs.Ways.{least_way, least_node, least_put}
use Rattle.arena_store.specs.Arenas.{beside}

-- where no worker may be active, so many more, to find the arena whose enqueued work is served
abbrev pub extra_visits : State → ℕ
extra_visits s = if limit_of s == 0 then s.levels * (2 * bits (length s.arenas)) else 0

-- the most that a command may make, but for Join and Lists
abbrev pub most_visits : State → ℕ
most_visits s = 4 * bits (length s.arenas) + 1 + extra_visits s

-- the most that Lists may make: no row twice
abbrev pub most_listed : State → ℕ
most_listed s = length s.arenas + extra_visits s

-- the most that Join may make: each row once, and no more than a way down for each arena that is allotted a worker, until one has too few
abbrev pub most_joined : State → ℕ
most_joined s = min (length s.arenas) (searches (rows_of s) * (2 * bits (length s.arenas))) + extra_visits s

-- the command lists all arenas
abbrev pub lists_all : Cmd → Bool
lists_all Lists = true
lists_all _ = false

-- the command looks at the arenas in order
abbrev pub looks_in_order : Cmd → Bool
looks_in_order Join = true
looks_in_order Lists = true
looks_in_order _ = false

-- where some worker may be active, at how many arenas a Join has to look: those that are allotted a worker, until one has too few
abbrev pub searched : State → ℕ
searched s = if limit_of s == 0 then 0 else searches (rows_of s)

-- no level has more than 12 arenas, so that each has one leaf, and all calls but Join and Lists count just their fewest
abbrev pub HasSmallLevels : State → Type 0
HasSmallLevels s = (level : ℕ) → length (at_level level s.arenas) ≤ 12

-- the fewest to look for the arena whose enqueued work is served at the first levels: one node of each
abbrev pub least_picked : List Arena → ℕ → ℕ
least_picked arenas zero = 0
least_picked arenas (suc levels) = least_picked arenas levels + least_node (length (at_level (suc levels) arenas))

-- where no worker may be active, so many at least, as `extra_visits` at most
abbrev pub least_extra : State → ℕ
least_extra s = if limit_of s == 0 then least_picked s.arenas s.levels else 0

-- the fewest to see what an arena is allotted where some worker may be active: a way down to its row, if it asks for workers
abbrev pub least_share : State → Arena → ℕ
least_share s a =
    if limit_of s == 0 then 0 else if request_of a.claim == 0 then 0 else least_way (length (at_level a.level s.arenas))

-- the fewest to see an arena, if there is one
abbrev pub least_seen : State → Option Arena → ℕ
least_seen s None = 0
least_seen s (Some a) = least_extra s + least_share s a

-- the fewest to list all arenas: one for each at which a listing has to look
abbrev pub least_listed : State → ℕ
least_listed s = least_extra s + looks (count_by is_some s.seats) (rows_of s)

-- the fewest that a command makes which has this reply: a way down to each row that is taken out, one node for each that is put in
-- or set, what it takes to see an arena, and one for each arena that is listed or at which a Join or a listing has to look
abbrev pub least_visits : State → Cmd → Reply → ℕ
least_visits s (Open slots reserved level) (Opened arena) = least_put (length (at_level level s.arenas))
least_visits s (Close arena) Closed = least_way (beside arena s.arenas)
least_visits s (Priority arena level) Moved = least_way (beside arena s.arenas) + least_put (length (at_level level (without arena s.arenas)))
least_visits s (Resize arena slots reserved) (Resized request) = least_node (beside arena s.arenas)
least_visits s (Request arena workers mandatory) (Requested request) = least_node (beside arena s.arenas)
least_visits s Join (Placed arena) = max 1 (searched s + least_extra s)
least_visits s Join Idle = searched s + least_extra s
least_visits s Stay (Stays arena) = least_seen s (arena_at arena s.arenas)
least_visits s Stay (Recalled arena) = least_seen s (arena_at arena s.arenas)
least_visits s (Show arena) (Shown view) = least_seen s (arena_at arena s.arenas)
least_visits s Lists (Listed lists) = max (length lists.recalls + length lists.hires) (least_listed s)
least_visits s cmd reply = 0
