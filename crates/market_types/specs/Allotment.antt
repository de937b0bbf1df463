-- How workers are divided among arenas, in the manner of oneTBB's market. A definition that restates the oneTBB specification
-- names its section; all others are our own, among them the order, the carries, and that enqueued work is a mandatory count.
use Rattle.std.specs.Prelude.{ℕ, ◌+◌, ◌-◌, ◌*◌, ◌/◌, ◌%◌, min, Bool, false, ◌&&◌, nat_lt, ◌==◌, if◌then◌else◌, List, [], ◌∷◌, map, Option, Some, None, unwrap_or, slice_index}
use Rattle.std.specs.List.{filter, flat_map, sum_by, count_by, fold, find, list_any, position_from, range_with_len, reduce}
use Rattle.market_types.specs.State.{Arena, Control, State}
use Rattle.market_types.specs.Claims.{request_of, is_mandated}

-- ---- the limit

-- the least control value (global_control: of several living limits the least counts), or `base` where there is none (own)
abbrev pub active_value : ℕ → List Control → ℕ
active_value base controls = unwrap_or (reduce min (map (λ (c : Control). c.value) controls)) base

-- how many workers may be active: the value counts the caller's own thread too (global_control), and `hard` is never passed (own)
abbrev pub limit_of : State → ℕ
limit_of s = min (active_value s.base s.controls - 1) s.hard

-- some arena has enqueued work: a mandatory count above 0 (own)
abbrev pub has_mandatory : List Arena → Bool
has_mandatory arenas = list_any (λ (a : Arena). nat_lt 0 a.claim.mandatory) arenas

-- the limit; where it is 0, one worker for enqueued work (global_control: with a value of 1 a worker still runs for it)
abbrev pub effective_limit_of : State → ℕ
effective_limit_of s = if nat_lt 0 (limit_of s) then limit_of s else if has_mandatory s.arenas then 1 else 0

-- ---- demand, and what each level is assigned

-- what arenas ask for together
abbrev pub total_request : List Arena → ℕ
total_request arenas = sum_by (λ (a : Arena). request_of a.claim) arenas

-- the arenas of a level, the newest first
abbrev pub at_level : ℕ → List Arena → List Arena
at_level level arenas = filter (λ (a : Arena). a.level == level) arenas

-- the levels in order
abbrev pub levels_of : State → List ℕ
levels_of s = range_with_len 1 s.levels

-- what a level's arenas ask for
abbrev pub demand : State → ℕ → ℕ
demand s level = total_request (at_level level s.arenas)

-- how many workers may be allotted in all; where some may be active, so many are
abbrev pub bound_of : State → ℕ
bound_of s = min (total_request s.arenas) (effective_limit_of s)

-- `m` workers given to demands in order, to each as many as it asks for and are left
abbrev pub assigned_to : List ℕ → ℕ → List ℕ
assigned_to [] m = []
assigned_to (d ∷ ds) m = min d m ∷ assigned_to ds (m - min d m)

-- how many workers a level is assigned
abbrev pub assigned : State → ℕ → ℕ
assigned s level = slice_index (assigned_to (map (demand s) (levels_of s)) (bound_of s)) (level - 1)

-- ---- allotment

-- the arenas in the order in which they are served: level by level, in a level the newest first
abbrev pub in_order : State → List Arena
in_order s = flat_map (λ level. at_level level s.arenas) (levels_of s)

-- the workers that an arena is allotted, by what its level is assigned of its demand and by the carry before it
abbrev pub share_of : (ℕ → ℕ) → (ℕ → ℕ) → ℕ → Arena → ℕ
share_of assigned demand carry a =
    if request_of a.claim == 0 then 0
    else (request_of a.claim * assigned a.level + carry) / demand a.level

-- the carry after an arena
abbrev pub carry_past : (ℕ → ℕ) → (ℕ → ℕ) → ℕ → Arena → ℕ
carry_past assigned demand carry a =
    if request_of a.claim == 0 then carry
    else (request_of a.claim * assigned a.level + carry) % demand a.level

-- the carry after arenas in order
abbrev pub carry_after : (ℕ → ℕ) → (ℕ → ℕ) → ℕ → List Arena → ℕ
carry_after assigned demand carry arenas = fold (carry_past assigned demand) carry arenas

-- the allotments of arenas in order, each beside its arena's number: one carry goes through all of them
abbrev pub carried : (ℕ → ℕ) → (ℕ → ℕ) → ℕ → List Arena → List (ℕ × ℕ)
carried assigned demand carry [] = []
carried assigned demand carry (a ∷ arenas) =
    (a.number, share_of assigned demand carry a) ∷ carried assigned demand (carry_past assigned demand carry a) arenas

-- the arena whose enqueued work is served where the limit is 0
abbrev pub mandatory_pick : State → Option Arena
mandatory_pick s = find (λ (a : Arena). is_mandated a.claim) (in_order s)

-- all of `workers` to the picked arena
abbrev pub all_to : Option Arena → ℕ → ℕ → ℕ
all_to None workers a = 0
all_to (Some picked) workers a = if picked.number == a then workers else 0

-- the count beside the first such number, or 0
abbrev pub count_at : ℕ → List (ℕ × ℕ) → ℕ
count_at a [] = 0
count_at a (e ∷ es) = if e.0 == a then e.1 else count_at a es

-- how many workers an arena is allotted
abbrev pub allotment_of : State → ℕ → ℕ
allotment_of s a =
    if nat_lt 0 (limit_of s)
    then count_at a (carried (assigned s) (demand s) 0 (in_order s))
    else all_to (mandatory_pick s) (bound_of s) a

-- the option is this number
abbrev pub is_just : ℕ → Option ℕ → Bool
is_just n None = false
is_just n (Some m) = m == n

-- the place, from 1, of the first demand above 0
abbrev pub first_demand : List ℕ → Option ℕ
first_demand demands = position_from (λ d. nat_lt 0 d) 1 demands

-- the first level that asks for workers
abbrev pub top_level : State → Option ℕ
top_level s = first_demand (map (demand s) (levels_of s))

-- the arena is top priority: it asks for workers, and no level before its own does (own)
abbrev pub is_top : State → Arena → Bool
is_top s a = nat_lt 0 (request_of a.claim) && is_just a.level (top_level s)

-- ---- recall and hire

-- how many seats are placed at an arena
abbrev pub active : State → ℕ → ℕ
active s a = count_by (is_just a) s.seats

-- how many workers it has too many
abbrev pub recall : State → ℕ → ℕ
recall s a = active s a - allotment_of s a

-- how many more it is allotted
abbrev pub hire : State → ℕ → ℕ
hire s a = allotment_of s a - active s a

-- the first arena in order that is allotted more workers than it has
abbrev pub need : State → Option Arena
need s = find (λ (a : Arena). nat_lt 0 (hire s a.number)) (in_order s)
