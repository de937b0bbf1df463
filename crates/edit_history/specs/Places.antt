-- The places of a history: who takes one, and how many are free.
use Rattle.std.specs.Prelude.{ℕ, ◌+◌, ◌-◌, ◌<◌, length, Option, Some, None, is_some}
use Rattle.std.specs.List.{count_by}
use Rattle.market_types.specs.declared.command.Cmd.{Cmd}
use Rattle.market_types.specs.declared.command.Cmd.TheVariants.{Join, Leave}
use Rattle.market_types.specs.State.{State}
use Rattle.market_types.specs.Step.{place_of}
use Rattle.edit_history.specs.Chronicled.{Chronicled, market_of}

-- how many seats are placed
abbrev pub placed : State → ℕ
placed s = count_by is_some s.seats

-- how many places a call takes, by the arena that its seat is placed at: a Join keeps a second one for its Leave, which
-- then takes none (own)
abbrev pub takes : Option ℕ → Cmd → ℕ
takes None Join = 2
takes (Some arena) Leave = 0
takes arena cmd = 1

-- the places that are not free: one for each entry that is kept, and one for each placed seat (own)
abbrev pub taken : Chronicled → ℕ
taken c = (length c.log - c.from) + placed (market_of c)

-- the free places
abbrev pub free : Chronicled → ℕ
free c = c.places - taken c

-- a call of this seat has too few free places
abbrev pub LacksPlaces : Chronicled → ℕ → Cmd → Type 0
LacksPlaces c seat cmd = free c < takes (place_of (market_of c) seat) cmd
