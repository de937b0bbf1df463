-- What opening a market answers.
use Rattle.std.specs.Prelude.{◌≡◌, ◌⊎◌, ℕ, ◌||◌, nat_lt, ◌==◌, if◌then◌else◌, length, Result, Ok, Err, IsOk}
use Rattle.market_types.specs.declared.opening.Opening.{Opening}
use Rattle.market_types.specs.declared.reply.OpenFault.{OpenFault}
use Rattle.market_types.specs.declared.reply.OpenFault.TheVariants.{BadBase, BadHard, BadSeats, BadLevels, Memory}
use Rattle.market_types.specs.State.{State, usual_last, opening_to}

-- a new market with this last number, or the first of its other numbers that is out of range (own)
abbrev pub opened_market_to : ℕ → ℕ → ℕ → ℕ → ℕ → Result State OpenFault
opened_market_to base hard seats levels last =
    if base == 0 || nat_lt 65536 base then Err BadBase
    else if hard == 0 || nat_lt 65535 hard then Err BadHard
    else if seats == 0 || nat_lt 64 seats then Err BadSeats
    else if levels == 0 || nat_lt 8 levels then Err BadLevels
    else Ok (opening_to base hard seats levels last)

-- the same with the usual last number
abbrev pub opened_market : ℕ → ℕ → ℕ → ℕ → Result State OpenFault
opened_market base hard seats levels = opened_market_to base hard seats levels usual_last

-- a market that nothing has happened to, opened with these numbers
abbrev pub opening_with : Opening → State
opening_with o = opening_to o.base o.hard o.seats o.levels o.last

-- a new market opened with these numbers, or the first of them that is out of range
abbrev pub opened_with : Opening → Result State OpenFault
opened_with o = opened_market_to o.base o.hard o.seats o.levels o.last

-- what a market was opened with
abbrev pub numbers_of : State → Opening
numbers_of s = record { base = s.base; hard = s.hard; seats = length s.seats; levels = s.levels; last = s.last }

-- the answer is the one that is due, or out of memory where no fault is due
abbrev pub MemoryAside : {A : Type 0} → Result A OpenFault → Result A OpenFault → Type 0
MemoryAside due answer = (answer ≡ due) ⊎ (IsOk due × (answer ≡ Err Memory))
