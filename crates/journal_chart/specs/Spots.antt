-- What is known of the place at which an arena stands in its level, between two moments at which the market is asked of it. Private functions alone
-- cite these words.
use Rattle.std.specs.Prelude.{ℕ, ◌+◌, ◌-◌, ◌*◌, ◌/◌, ◌%◌, ◌^◌, ◌&&◌, ◌==◌, Bool, min, nat_le, nat_lt, if◌then◌else◌, Option, None, Some}
use Rattle.journal_chart.specs.declared.covered.Covered.{Covered}
use Rattle.journal_chart.specs.declared.spot.Spot.{Spot}

-- no place is known
abbrev pub no_spot : Spot
no_spot = record { given = 0; asked = 0; until = 0 }

-- what is asked for before an arena is of use if the market has to tell what the arena is allotted, and a level that is given so many of what it asks
-- for asks for many more: else a few entries take the arena out of its reach
abbrev pub place_told : Option ℕ → ℕ → ℕ → ℕ → Option ℕ
place_told (Some share) before given asked = None
place_told None before given asked = if nat_le (64 * given) asked then Some before else None

-- what an arena is allotted is covered, if those before it are given so many workers; and its level is given as many as that takes
abbrev pub is_told : Covered → ℕ → ℕ → ℕ → ℕ → ℕ → Bool
is_told c request before given asked workers =
    nat_le (workers + c.below) given
    && (nat_le ((workers + c.from) * asked) ((before + request) * given) && nat_lt ((before + request) * given) ((workers + c.below) * asked))

-- by how much what is asked for before the arena, and from it on, may become another number, with what it is allotted covered all the same
abbrev pub reach_of : Covered → ℕ → ℕ → ℕ → ℕ → ℕ → ℕ
reach_of c request before given asked workers =
    min (min (before * given % asked) (asked - 1 - before * given % asked))
    (min ((before + request) * given - (workers + c.from) * asked) ((workers + c.below) * asked - 1 - (before + request) * given))
    / given

-- the spot of an arena with such a reach, where its level is given so many of what it asks for, and the levels have drifted so far
abbrev pub spot_within : ℕ → ℕ → ℕ → ℕ → Spot
spot_within reach given asked drift = record { given = given; asked = asked; until = drift + 2 * reach }

-- the spot of an arena of which this is covered, that asks for so many workers, before which so much is asked for
abbrev pub spot_by : Covered → ℕ → ℕ → ℕ → ℕ → ℕ → Spot
spot_by c request before given asked drift =
    if nat_lt 0 given && (is_told c request before given asked (before * given / asked) && nat_lt drift (2 ^ 30))
    then spot_within (reach_of c request before given asked (before * given / asked)) given asked drift
    else no_spot

-- the same where its place may be of use
abbrev pub spot_told : Option ℕ → Covered → ℕ → ℕ → ℕ → ℕ → Spot
spot_told None c request given asked drift = no_spot
spot_told (Some before) c request given asked drift = spot_by c request before given asked drift

-- the arena is within its spot's reach: what it is allotted is covered, if its level is given so many of what it asks for, and the levels have drifted
-- so far, of which the level has come to ask for no more, nor for less, than is told; beyond the most that is counted of that nothing is
abbrev pub holds : Spot → ℕ → ℕ → ℕ → Bool
holds o drift given asked =
    (o.given == given) && (nat_lt drift (2 ^ 32 - 1) && (nat_le (drift + asked) (o.until + o.asked) && nat_le (drift + o.asked) (o.until + asked)))
