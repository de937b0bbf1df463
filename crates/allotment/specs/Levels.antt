-- What the levels of a market are in an array that has a place for each level that any market can have.
use Rattle.std.specs.Prelude.{◌≡◌, ℕ, ◌-◌, ◌≤◌, List, [], ◌∷◌, Option, None, Some, slice_index, slice_index_or, All}
use Rattle.std.specs.List.{find}
use Rattle.std.specs.Option.{option_map}
use Rattle.market_types.specs.State.{State, Arena}
use Rattle.market_types.specs.Claims.{request_of, is_mandated}
use Rattle.market_types.specs.Allotment.{total_request, demand, at_level, mandatory_pick}

-- what each level asks for, and 0 above the market's levels
pub record AreDemandsOf (s : State) (demands : List ℕ) : Type 0 where
  pub levels : (level : ℕ) → 1 ≤ level → level ≤ s.levels → slice_index demands (level - 1) ≡ demand s level
  pub above : (place : ℕ) → s.levels ≤ place → slice_index demands place ≡ 0

-- the number of an arena, where there is one
abbrev pub number_of : Option Arena → Option ℕ
number_of arena = option_map (λ (a : Arena). a.number) arena

-- the first arena of each level that has enqueued work and asks for workers, and none above the market's levels
pub record ArePicksOf (s : State) (picks : List (Option ℕ)) : Type 0 where
  pub levels : (level : ℕ) → 1 ≤ level → level ≤ s.levels
      → slice_index_or picks (level - 1) None ≡ number_of (find (λ (a : Arena). is_mandated a.claim) (at_level level s.arenas))
  pub above : (place : ℕ) → s.levels ≤ place → slice_index_or picks place None ≡ None

-- the number of the arena whose enqueued work is served where the limit is 0
abbrev pub pick_of : State → Option ℕ
pick_of s = number_of (mandatory_pick s)

-- the first that there is
abbrev pub first_some : List (Option ℕ) → Option ℕ
first_some [] = None
first_some (None ∷ picks) = first_some picks
first_some (Some a ∷ picks) = Some a

-- each arena is at a level of the market
abbrev pub IsLeveled : State → Type 0
IsLeveled s = All (λ (a : Arena). (1 ≤ a.level) × (a.level ≤ s.levels)) s.arenas

-- the arena asks for `request` of the `demand` of its level, which is assigned `assigned`
pub record Asks (given asked : ℕ → ℕ) (a : Arena) (assigned demand request : ℕ) : Type 0 where
  pub assigned_is : assigned ≡ given a.level
  pub demand_is : demand ≡ asked a.level
  pub request_is : request ≡ request_of a.claim

-- the arenas of its level before it ask for `before` together
abbrev pub AskBefore : List Arena → Arena → ℕ → Type 0
AskBefore others a before = before ≡ total_request (at_level a.level others)

-- the workers that stand beside an arena's number
abbrev pub workers_of : ℕ × ℕ → ℕ
workers_of e = e.1
