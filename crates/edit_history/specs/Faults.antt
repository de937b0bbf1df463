-- Which fault of a chronicle's numbers comes first. No public clause has these words.
use Rattle.std.specs.Prelude.{ℕ, Bool, ◌||◌, ◌==◌, nat_lt, if◌then◌else◌}
use Rattle.market_types.specs.declared.reply.OpenFault.{OpenFault}
use Rattle.market_types.specs.declared.reply.OpenFault.TheVariants.{BadBase, BadHard, BadSeats, BadPlaces}

abbrev pub bad_places : ℕ → Bool
bad_places places = places == 0 || nat_lt 1048576 places

-- the fault of a market's numbers, but where the places are bad, and no fault comes before that
abbrev pub first_fault : OpenFault → Bool → OpenFault
first_fault BadBase bad = BadBase
first_fault BadHard bad = BadHard
first_fault BadSeats bad = BadSeats
first_fault fault bad = if bad then BadPlaces else fault
