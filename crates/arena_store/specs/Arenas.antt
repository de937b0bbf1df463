-- Lists of arenas, the greatest stamp first, and what a level's list keeps of an arena (own).
use Rattle.std.specs.Prelude.{◌≡◌, ℕ, ◌≤◌, ◌==◌, Bool, false, nat_lt, List, ◌∷◌, ◌++◌, take, map, length, Option, Some, None, slice_get}
use Rattle.std.specs.List.{All, filter, count_by}
use Rattle.market_types.specs.declared.row.Row.{Row}
use Rattle.market_types.specs.State.{Arena}
use Rattle.market_types.specs.Claims.{request_of, is_mandated}
use Rattle.market_types.specs.Allotment.{at_level}
use Rattle.market_types.specs.Step.{arena_at}

-- ---- what stands in the list

-- the arena has this number
abbrev pub has_number : ℕ → Arena → Bool
has_number n a = a.number == n

-- no arena has it
abbrev pub IsMissing : ℕ → List Arena → Type 0
IsMissing n arenas = All (λ (a : Arena). has_number n a ≡ false) arenas

-- the arenas with stamps above this one
abbrev pub newer : ℕ → List Arena → List Arena
newer stamp arenas = filter (λ (a : Arena). nat_lt stamp a.stamp) arenas

-- the arenas with stamps below it
abbrev pub older : ℕ → List Arena → List Arena
older stamp arenas = filter (λ (a : Arena). nat_lt a.stamp stamp) arenas

-- the arena of this number stands between those that are newer and those that are older, and none of them has its number
pub record IsFound (n : ℕ) (a : Arena) (arenas : List Arena) : Type 0 where
  pub split : arenas ≡ newer a.stamp arenas ++ a ∷ older a.stamp arenas
  pub number : a.number ≡ n
  pub missing_before : IsMissing n (newer a.stamp arenas)
  pub missing_after : IsMissing n (older a.stamp arenas)

-- the arena at an index of a level's is found by its number, and those of the level before it are those that are newer
pub record IsFoundAtLevel (level index : ℕ) (a : Arena) (arenas : List Arena) : Type 0 where
  pub by_number : arena_at a.number arenas ≡ Some a
  pub newer_before : at_level level (newer a.stamp arenas) ≡ take index (at_level level arenas)

-- each arena stands in the list once: it is found by its number, and by its index in its level
pub record StandOnce (arenas : List Arena) : Type 0 where
  pub once : (n : ℕ) → count_by (has_number n) arenas ≤ 1
  pub found : (n : ℕ) (a : Arena) → arena_at n arenas ≡ Some a → IsFound n a arenas
  pub in_level : (level index : ℕ) (a : Arena) → slice_get (at_level level arenas) index ≡ Some a → IsFoundAtLevel level index a arenas

-- ---- a level's list

-- what a level's list keeps of an arena
abbrev pub level_row : Arena → Row
level_row a =
    record { stamp = a.stamp; arena = a.number; request = request_of a.claim; mandated = is_mandated a.claim }

-- a level's list
abbrev pub level_rows : ℕ → List Arena → List Row
level_rows level arenas = map level_row (at_level level arenas)

-- how many arenas stand at the level of one of them, if there is one
abbrev pub len_beside : Option Arena → List Arena → ℕ
len_beside None arenas = 0
len_beside (Some a) arenas = length (at_level a.level arenas)

-- how many arenas stand at the level of the one with this number, itself counted
abbrev pub beside : ℕ → List Arena → ℕ
beside n arenas = len_beside (arena_at n arenas) arenas
