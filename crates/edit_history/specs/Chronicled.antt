-- What contracts see of a chronicle, and what opening one answers.
use Rattle.std.specs.Prelude.{◌≡◌, ◌<◌, ◌≤◌, ℕ, ◌+◌, ◌||◌, ◌==◌, nat_lt, if◌then◌else◌, List, [], length, Result, Ok, Err}
use Rattle.market_types.specs.declared.command.Cmd.{Cmd}
use Rattle.market_types.specs.declared.reply.Entry.{Entry}
use Rattle.market_types.specs.declared.reply.Reply.{Reply}
use Rattle.market_types.specs.declared.reply.OpenFault.{OpenFault}
use Rattle.market_types.specs.declared.reply.OpenFault.TheVariants.{BadBase, BadHard, BadSeats, BadPlaces, BadLevels}
use Rattle.edit_history.specs.declared.keeping.Keeping.{Keeping}
use Rattle.edit_history.specs.declared.terms.Terms.{Terms}
use Rattle.edit_history.specs.declared.keeping.Keeping.TheVariants.{Everything, InParts, Nothing}
use Rattle.market_types.specs.State.{State, opening_to, usual_last}
use Rattle.market_types.specs.Opening.{opening_with}
use Rattle.market_types.specs.Commands.{Fits}
use Rattle.market_types.specs.History.{calls_of, state_after}

-- the market at its opening, the one that it holds now, the history since, the number of places, how many of the first entries are no longer kept, and which entries are to be kept (own)
pub record Chronicled : Type 0 where
  pub start : State
  pub market : State
  pub log : List Entry
  pub places : ℕ
  pub from : ℕ
  pub keeping : Keeping

-- what the opening becomes by the history: the market that is held is this one
abbrev pub market_of : Chronicled → State
market_of c = state_after c.start (calls_of c.log)

-- the call is by one of so many seats, and each number of its command is one that a command can hold
abbrev pub IsCallOf : ℕ → Entry → Type 0
IsCallOf seats e = (e.call.seat < seats) × Fits e.call.cmd

-- a seat's command with its reply
abbrev pub entry : ℕ → Cmd → Reply → Entry
entry seat cmd reply = record { call = record { seat = seat; cmd = cmd }; reply = reply }

-- a chronicle that nothing has happened to
abbrev pub begun : Terms → Chronicled
begun t =
    let start = opening_with t.opening in
    record { start = start; market = start; log = []; places = t.places; from = 0; keeping = t.keeping }

-- a new chronicle, or the first of its numbers that is out of range; the last number is never (own)
abbrev pub opened_by : Terms → Result Chronicled OpenFault
opened_by t =
    if t.opening.base == 0 || nat_lt 65536 t.opening.base then Err BadBase
    else if t.opening.hard == 0 || nat_lt 65535 t.opening.hard then Err BadHard
    else if t.opening.seats == 0 || nat_lt 64 t.opening.seats then Err BadSeats
    else if t.places == 0 || nat_lt 1048576 t.places then Err BadPlaces
    else if t.opening.levels == 0 || nat_lt 8 t.opening.levels then Err BadLevels
    else Ok (begun t)

-- the terms of these numbers: all entries are kept, and the last number is the usual one
abbrev pub usual_terms : ℕ → ℕ → ℕ → ℕ → ℕ → Terms
usual_terms base hard seats places levels =
    record { opening = record { base = base; hard = hard; seats = seats; levels = levels; last = usual_last }; places = places; keeping = Everything }

-- the same terms, but that the entries are cut out in parts
abbrev pub in_parts : Terms → Terms
in_parts t = record t { keeping = InParts }

-- the same terms, but that no entry is kept: the places are those that calls need at a time, one for each seat's Leave, and two for a call
abbrev pub unrecorded : Terms → Terms
unrecorded t = record t { places = t.opening.seats + 2; keeping = Nothing }

-- a new chronicle of these numbers, whose entries are all kept
abbrev pub opened_chronicle : ℕ → ℕ → ℕ → ℕ → ℕ → Result Chronicled OpenFault
opened_chronicle base hard seats places levels = opened_by (usual_terms base hard seats places levels)

-- the same, whose entries are to be cut out in parts
abbrev pub opened_in_parts : ℕ → ℕ → ℕ → ℕ → ℕ → Result Chronicled OpenFault
opened_in_parts base hard seats places levels = opened_by (in_parts (usual_terms base hard seats places levels))

-- the same, whose entries are not to be kept
abbrev pub opened_unrecorded : ℕ → ℕ → ℕ → ℕ → Result Chronicled OpenFault
opened_unrecorded base hard seats levels = opened_by (unrecorded (usual_terms base hard seats 0 levels))

-- how long a history is at most whose entries are all forgotten or cut out: behind these, a history has places still, and its calls are counted in 64 bits
abbrev pub most_forgotten : ℕ
most_forgotten = 18446744073708503039

-- it is what a market is opened with, and its numbers are in their ranges
pub record IsOpening (s : State) : Type 0 where
  pub same : s ≡ opening_to s.base s.hard (length s.seats) s.levels s.last
  pub base : (1 ≤ s.base) × (s.base ≤ 65536)
  pub hard : (1 ≤ s.hard) × (s.hard ≤ 65535)
  pub seats : (1 ≤ length s.seats) × (length s.seats ≤ 64)
  pub levels : (1 ≤ s.levels) × (s.levels ≤ 8)
  pub last : (1 ≤ s.last) × (s.last ≤ 4294967294)

-- the market has the numbers of its opening still
pub record HasNumbersOf (start s : State) : Type 0 where
  pub base : s.base ≡ start.base
  pub hard : s.hard ≡ start.hard
  pub seats : length s.seats ≡ length start.seats
  pub levels : s.levels ≡ start.levels
  pub last : s.last ≡ start.last
