-- How the table keeps its arenas: each in place, and its number among the sorted numbers, with its place beside it. The
-- table's invariant and the crate's private functions alone cite these words.
use Rattle.std.specs.Prelude.{◌≡◌, ◌==◌, ℕ, pos, ◌+◌, ◌<◌, ◌≤◌, Bool, nat_lt, if◌then◌else◌, List, length, map, Option, None, slice_index_or}
use Rattle.std.specs.List.{AllPairs, count_by, position_or_len}
use Rattle.std.specs.Option.{is_some, unwrap_or}
use Rattle.market_types.specs.State.{Arena}

-- the numbers rise
abbrev pub IsRising : List ℕ → Type 0
IsRising keys = AllPairs (λ (a b : ℕ). a < b) keys

-- what stands at a place: nothing where it is free, or behind the last
abbrev pub record_at : List (Option Arena) → ℕ → Option Arena
record_at records place = slice_index_or records place None

-- stands for the arena of a place that has none
abbrev pub no_arena : Arena
no_arena = record { number = 0; stamp = 0; level = 0; claim = record { slots = 0; reserved = 0; wanted = pos 0; mandatory = 0 } }

-- the arenas that stand at these places
abbrev pub arenas_at : List (Option Arena) → List ℕ → List Arena
arenas_at records places = map (λ (place : ℕ). unwrap_or (record_at records place) no_arena) places

-- how often a place is listed
abbrev pub times : ℕ → List ℕ → ℕ
times place places = count_by (λ (p : ℕ). p == place) places

-- the index at which a place is listed first
abbrev pub index_in : List ℕ → ℕ → ℕ
index_in places place = position_or_len (λ (p : ℕ). p == place) places

-- 1 where it is true
abbrev pub one_if : Bool → ℕ
one_if b = if b then 1 else 0

-- what the table is to the store: its arenas by rising number, the place of each, and for how many more it has room
pub record Held : Type 0 where
  pub arenas : List Arena
  pub places : List ℕ
  pub spare : ℕ

-- what holds of the numbers, the places beside them, the free places and the records
pub record IsInPlace (keys places free : List ℕ) (records : List (Option Arena)) : Type 0 where
  -- each number is that of the arena at the place beside it
  pub keyed : keys ≡ map (λ (a : Arena). a.number) (arenas_at records places)
  -- a place stands beside one number where an arena stands there, and beside none otherwise
  pub in_use : (place : ℕ) → times place places ≡ one_if (is_some (record_at records place))
  -- each place is listed once, beside a number or among the free ones
  pub once : (place : ℕ) → times place places + times place free ≡ one_if (nat_lt place (length records))
  -- so they are as many as the places
  pub sizes : length places + length free ≡ length records

-- each list has the capacity for all places, so that only a new place takes memory
pub record HasRoom (count keys_room places_room free_room : ℕ) : Type 0 where
  pub keys : count ≤ keys_room
  pub places : count ≤ places_room
  pub free : count ≤ free_room
