-- How the lines of a journal read (own).
use Rattle.std.specs.Prelude.{ℕ, ◌+◌, ◌&&◌, ◌||◌, ◌==◌, nat_lt, if◌then◌else◌, List, Option, Some, None, option_map, option_and_then, codes}
use Rattle.std.specs.Str.{is_utf8}
use Rattle.serde_json.specs.Data.{Data, Members, no_members, member}
use Rattle.serde_json.specs.Find.{get, as_str, as_number, as_u64, as_object}
use Rattle.serde_json.specs.Read.{read}
use Rattle.market_types.specs.declared.command.Cmd.{Cmd}
use Rattle.market_types.specs.State.{usual_last}
use Rattle.market_types.specs.Opening.{opening_with}
use Rattle.market_texts.specs.Reading.{reading, in_seats}
use Rattle.journal_replay.specs.declared.header.Extent.{Extent}
use Rattle.journal_replay.specs.declared.header.Extent.TheVariants.{Limited, Endless}
use Rattle.journal_replay.specs.declared.header.Header.{Header}
use Rattle.journal_replay.specs.declared.reading.Version.{Version}
use Rattle.journal_replay.specs.declared.reading.Version.TheVariants.{First, Second, Third}
use Rattle.journal_replay.specs.declared.reading.Opened.{Opened}

-- ---- JSON

-- what a text is as JSON; what is not UTF-8 is none
unfoldable pub json_of : List ℕ → Option Data
json_of text = if is_utf8 text then read text else None

abbrev pub count_members : Members → ℕ
count_members no_members = 0
count_members (member key value members) = count_members members + 1

abbrev pub count_of : Option Members → ℕ
count_of None = 0
count_of (Some members) = count_members members

-- how many members an object has; what is no object has none
abbrev pub member_count : Data → ℕ
member_count d = count_of (as_object d)

-- the text at a key
abbrev pub text_at : List ℕ → Data → Option (List ℕ)
text_at key d = option_and_then as_str (get key d)

-- the whole number at a key
abbrev pub whole_at : List ℕ → Data → Option ℕ
whole_at key d = option_and_then as_u64 (option_and_then as_number (get key d))

abbrev pub from_one_to : ℕ → ℕ → Option ℕ
from_one_to most n = if n == 0 || nat_lt most n then None else Some n

-- the whole number from 1 to `most` at a key
abbrev pub number_at : List ℕ → ℕ → Data → Option ℕ
number_at key most d = option_and_then (from_one_to most) (whole_at key d)

-- ---- the header

-- the version that a number and a count of keys tell together
abbrev pub version_by : ℕ → ℕ → Option Version
version_by keys number =
    if number == 1 && (keys == 4) then Some First
    else if number == 2 && (keys == 5) then Some Second
    else if number == 3 && (keys == 6) then Some Third
    else None

abbrev pub version_of : Data → Option Version
version_of d = option_and_then (version_by (member_count d)) (number_at (codes "journal") 3 d)

-- how many levels the market has: version 1 tells none, and they are three
abbrev pub levels_in : Data → Version → Option ℕ
levels_in d First = Some 3
levels_in d Second = number_at (codes "levels") 8 d
levels_in d Third = number_at (codes "levels") 8 d

-- the market's last number: version 3 tells it, and before that it is the usual one
abbrev pub last_in : Data → Version → Option ℕ
last_in d First = Some usual_last
last_in d Second = Some usual_last
last_in d Third = number_at (codes "last") 4294967294 d

-- how many entries the journal may have: in version 3 any number
abbrev pub extent_of : Version → Extent
extent_of First = Limited
extent_of Second = Limited
extent_of Third = Endless

abbrev pub with_hard : Data → Version → ℕ → ℕ → ℕ → ℕ → Option Header
with_hard d version levels last base hard =
    option_map (λ seats. record { opening = record { base = base; hard = hard; seats = seats; levels = levels; last = last }; extent = extent_of version })
    (number_at (codes "seats") 64 d)

abbrev pub with_base : Data → Version → ℕ → ℕ → ℕ → Option Header
with_base d version levels last base = option_and_then (with_hard d version levels last base) (number_at (codes "hard") 65535 d)

abbrev pub with_last : Data → Version → ℕ → ℕ → Option Header
with_last d version levels last = option_and_then (with_base d version levels last) (number_at (codes "base") 65536 d)

abbrev pub with_levels : Data → Version → ℕ → Option Header
with_levels d version levels = option_and_then (with_last d version levels) (last_in d version)

abbrev pub with_version : Data → Version → Option Header
with_version d version = option_and_then (with_levels d version) (levels_in d version)

-- what a header tells: it has exactly the keys of its version, with numbers in their ranges
unfoldable pub header_in : Data → Option Header
header_in d = option_and_then (with_version d) (version_of d)

-- what is opened with these numbers
abbrev pub opened_by : Header → Opened
opened_by h = record { market = opening_with h.opening; extent = h.extent }

-- the market that a header opens, and how many entries its journal may have
abbrev pub header_of : Data → Option Opened
header_of d = option_map opened_by (header_in d)

-- ---- an entry

-- a call with the text that is to be its reply
pub record Recorded : Type 0 where
  pub seat : ℕ
  pub cmd : Cmd
  pub reply : List ℕ

-- a seat below the number of seats
abbrev pub seat_in : ℕ → Data → Option ℕ
seat_in seats d = option_and_then (in_seats seats) (whole_at (codes "seat") d)

-- a command that its text spells
abbrev pub cmd_in : ℕ → Data → Option Cmd
cmd_in levels d = option_and_then (reading levels) (text_at (codes "cmd") d)

abbrev pub with_reply : ℕ → Data → Cmd → List ℕ → Option Recorded
with_reply seats d cmd reply = option_map (λ seat. record { seat = seat; cmd = cmd; reply = reply }) (seat_in seats d)

abbrev pub with_cmd : ℕ → Data → Cmd → Option Recorded
with_cmd seats d cmd = option_and_then (with_reply seats d cmd) (text_at (codes "reply") d)

-- the entry that a market of so many seats and levels may have: it has exactly the keys `cmd`, `reply` and `seat`
unfoldable pub entry_in : ℕ → ℕ → Data → Option Recorded
entry_in seats levels d = if member_count d == 3 then option_and_then (with_cmd seats d) (cmd_in levels d) else None
