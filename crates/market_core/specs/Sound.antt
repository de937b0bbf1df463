-- What holds of every market's numbers. The market's invariant keeps it, and no public clause has these words.
use Rattle.std.specs.Prelude.{◌≤◌, ◌<◌, length}
use Rattle.std.specs.List.{All}
use Rattle.market_types.specs.State.{Arena, State}
use Rattle.allotment.specs.Levels.{IsLeveled}

-- what each market keeps
pub record IsSound (s : State) : Type 0 where
  pub base : (1 ≤ s.base) × (s.base ≤ 65536)
  pub hard : (1 ≤ s.hard) × (s.hard ≤ 65535)
  pub seats : (1 ≤ length s.seats) × (length s.seats ≤ 64)
  pub levels : (1 ≤ s.levels) × (s.levels ≤ 8)
  pub numbered : All (λ (a : Arena). a.number < s.next_arena) s.arenas
  pub stamped : All (λ (a : Arena). a.stamp < s.next_stamp) s.arenas
  pub leveled : IsLeveled s
