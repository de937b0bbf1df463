-- What a chronicle keeps. No clause of a public call names it.
use Rattle.std.specs.Prelude.{◌≡◌, ℕ, ◌+◌, ◌^◌, ◌<◌, ◌≤◌, List, ◌++◌, length}
use Rattle.std.specs.List.{All}
use Rattle.market_types.specs.declared.reply.Entry.{Entry}
use Rattle.market_types.specs.State.{State}
use Rattle.market_types.specs.History.{IsLegal, calls_of, state_after}
use Rattle.edit_history.specs.Chronicled.{IsOpening, IsCallOf}
use Rattle.edit_history.specs.Places.{placed}

-- the market is what the opening becomes by the history, which is legal, and whose calls the market can have; every entry and every Leave of a placed seat has its
-- place, and its memory
pub record IsKept (start market : State) (past recent : List Entry) (from places capacity : ℕ) : Type 0 where
  pub opened : IsOpening start
  pub legal : IsLegal start (past ++ recent)
  pub calls : All (IsCallOf (length start.seats)) (past ++ recent)
  pub market_is : market ≡ state_after start (calls_of (past ++ recent))
  pub from_is : from ≡ length past
  pub room : length recent + placed market ≤ places
  pub memory : length recent + placed market ≤ capacity
  pub few : places ≤ 1048576
  pub countable : from + places < 2 ^ 64
