-- How the workers of a market are divided at a moment.
use Rattle.std.specs.Prelude.{◌≡◌, ℕ, zero, suc, ◌+◌, ◌-◌, ◌*◌, ◌<◌, ◌≤◌, List, Option, None, Some, length, slice_index}
use Rattle.market_types.specs.State.{State}
use Rattle.market_types.specs.Allotment.{limit_of, bound_of, assigned, assigned_to, at_level, demand, total_request}
use Rattle.allotment.specs.Levels.{AreDemandsOf, IsLeveled, pick_of}
use Rattle.arena_store.specs.Arenas.{StandOnce, level_rows}
use Rattle.recall_hire.specs.declared.rows.Staffing.{Staffing}
use Rattle.recall_hire.specs.declared.sharing.Sharing.{Sharing}
use Rattle.recall_hire.specs.Shared.{CanShareAll, staffed}
use Rattle.recall_hire.specs.Staffed.{rows_among}
use Rattle.market_core.specs.declared.division.Division.{Division}
use Rattle.market_core.specs.declared.division.LevelShare.{LevelShare}

-- how the workers of a market are divided among its levels; where none may be active, who is served; and what holds of
-- the market's arenas
pub record IsDivisionOf (s : State) (d : Division) : Type 0 where
  pub once : StandOnce s.arenas
  pub leveled : IsLeveled s
  pub limit : d.limit ≡ limit_of s
  pub bound : d.bound ≡ bound_of s
  pub demands : AreDemandsOf s d.demands.values
  pub size : length d.demands.values ≡ 8
  pub small : (index : ℕ) → slice_index d.demands.values index ≤ 1024 * 65535
  pub given : d.assigned.values ≡ assigned_to d.demands.values d.bound
  pub assigned : (level : ℕ) → 1 ≤ level → level ≤ s.levels → slice_index d.assigned.values (level - 1) ≡ assigned s level
  pub within : (index : ℕ) → slice_index d.assigned.values index ≤ slice_index d.demands.values index
  pub picked : limit_of s ≡ 0 → d.picked ≡ pick_of s

-- private: what the first levels ask for together
abbrev pub asked_before : State → ℕ → ℕ
asked_before s zero = 0
asked_before s (suc levels) = asked_before s levels + demand s (suc levels)

-- private: how many workers the first levels leave to the next
abbrev pub left_after : State → ℕ → ℕ
left_after s levels = limit_of s - asked_before s levels

-- private: the level is one of the market's, some worker may be active, and this is what it is assigned of what it asks for
pub record IsSharedAt (level : ℕ) (s : State) (share : LevelShare) : Type 0 where
  pub once : StandOnce s.arenas
  pub leveled : IsLeveled s
  pub some : 0 < limit_of s
  pub low : 1 ≤ level
  pub high : level ≤ s.levels
  pub assigned : share.assigned ≡ assigned s level
  pub demand : share.demand ≡ demand s level
  pub within : share.assigned ≤ share.demand
  pub small : share.demand ≤ 1024 * 65535

-- private: the rows of a level's arenas
abbrev pub rows_at : State → ℕ → List Staffing
rows_at s level = rows_among s (at_level level s.arenas)

-- private: shared out so, the level's workers go to its arenas as the market allots them, and the listing can go by it
pub record IsSharingOf (level : ℕ) (s : State) (sharing : Sharing) : Type 0 where
  pub fits : CanShareAll sharing 0 (total_request (at_level level s.arenas))
  pub rows : staffed sharing s.seats 0 (level_rows level s.arenas) ≡ rows_at s level

-- private: where no worker may be active, how all workers are shared out
abbrev pub IsServing : State → Option Sharing → Type 0
IsServing s None = 0 < limit_of s
IsServing s (Some sharing) = (limit_of s ≡ 0) × ((level : ℕ) → IsSharingOf level s sharing)
