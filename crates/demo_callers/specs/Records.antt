-- Who calls at an office that lasts (own).
use Rattle.std.specs.Prelude.{◌+◌, ℕ}
use Rattle.market_types.specs.State.{State, opening_to}
use Rattle.edit_history.specs.declared.keeping.Keeping.{Keeping}
use Rattle.edit_history.specs.declared.keeping.Keeping.TheVariants.{InParts, Nothing}
use Rattle.journal_replay.specs.declared.header.Extent.TheVariants.{Endless}
use Rattle.journal_replay.specs.declared.header.Header.{Header}
use Rattle.demo_callers.specs.declared.forever.Record.{Record}
use Rattle.demo_callers.specs.declared.forever.Record.TheVariants.{Nothing as NoRecord, Journal}

-- who writes the journal has a seat too
abbrev pub most_callers : Record → ℕ
most_callers NoRecord = 64
most_callers Journal = 63

-- so many seats have so many callers, and who writes the journal
abbrev pub seats_of : Record → ℕ → ℕ
seats_of NoRecord callers = callers
seats_of Journal callers = callers + 1

-- what becomes a journal is cut out in parts
abbrev pub keeping_of : Record → Keeping
keeping_of NoRecord = Nothing
keeping_of Journal = InParts

-- the market that so many seats call at: its numbers last as long as numbers can
abbrev pub lasting : ℕ → State
lasting seats = opening_to 8 64 seats 3 4294967294

-- the header of the journal that tells so, which may have any number of entries
abbrev pub header_of : ℕ → Header
header_of callers = record { opening = record { base = 8; hard = 64; seats = callers + 1; levels = 3; last = 4294967294 }; extent = Endless }
