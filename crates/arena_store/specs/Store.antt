-- How the store keeps its arenas: a table by number, and for each level a list by stamp. Its invariant and its private
-- functions alone cite these words.
use Rattle.std.specs.Prelude.{◌≡◌, ◌≢◌, ℕ, ◌-◌, ◌<◌, ◌≤◌, Bool, nat_lt, if◌then◌else◌, List, [], ◌∷◌, length, slice_index_or}
use Rattle.std.specs.List.{All, AllPairs, count_by}
use Rattle.market_types.specs.declared.row.Row.{Row}
use Rattle.market_types.specs.State.{Arena}
use Rattle.arena_store.specs.Arenas.{level_rows}

-- the arenas with one more, before the first that is older
abbrev pub insert_arena : Arena → List Arena → List Arena
insert_arena a [] = a ∷ []
insert_arena a (b ∷ bs) = if nat_lt b.stamp a.stamp then a ∷ b ∷ bs else b ∷ insert_arena a bs

-- the arenas, greatest stamp first
abbrev pub by_stamp : List Arena → List Arena
by_stamp [] = []
by_stamp (a ∷ arenas) = insert_arena a (by_stamp arenas)

-- each arena is newer than every one after it
abbrev pub IsNewestFirst : List Arena → Type 0
IsNewestFirst arenas = AllPairs (λ (a b : Arena). b.stamp < a.stamp) arenas

-- no number is used twice
abbrev pub IsApart : List Arena → Type 0
IsApart arenas = AllPairs (λ (a b : Arena). a.number ≢ b.number) arenas

-- the numbers rise
abbrev pub IsByNumber : List Arena → Type 0
IsByNumber arenas = AllPairs (λ (a b : Arena). a.number < b.number) arenas

-- the arena has enqueued work
abbrev pub has_work : Arena → Bool
has_work a = nat_lt 0 a.claim.mandatory

-- there is a list for each level, level 1 first
pub record IsListed (lists : List (List Row)) (arenas : List Arena) : Type 0 where
  pub width : length lists ≡ 8
  pub rows : (level : ℕ) (d : List Row) → 1 ≤ level → level ≤ 8 → slice_index_or lists (level - 1) d ≡ level_rows level arenas

-- what holds of the table, the lists and the count of arenas with enqueued work
pub record IsStored (table : List Arena) (lists : List (List Row)) (count : ℕ) : Type 0 where
  pub few : length table ≤ 1024
  pub by_number : IsByNumber table
  pub newest_first : IsNewestFirst (by_stamp table)
  pub leveled : All (λ (a : Arena). (1 ≤ a.level) × (a.level ≤ 8)) table
  pub listed : IsListed lists (by_stamp table)
  pub enqueued : count ≡ count_by has_work table

-- what holds of the sorted arenas: they are at most 1,024, no two of one number, newest first
pub record IsKept (arenas : List Arena) : Type 0 where
  pub few : length arenas ≤ 1024
  pub apart : IsApart arenas
  pub newest_first : IsNewestFirst arenas
