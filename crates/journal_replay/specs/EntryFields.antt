-- The fields of an entry, as data tells them.
use Rattle.std.specs.Prelude.{◌≡◌, ◌<◌, ◌^◌, ℕ, nat_lt, if◌then◌else◌, Option, Some, None, option_and_then, codes}
use Rattle.serde_json.specs.Data.{Data, Members, object}
use Rattle.journal_replay.specs.Reading.{entry_in, whole_at}

-- a number of 32 bits
abbrev pub in_word : ℕ → Option ℕ
in_word n = if nat_lt n (2 ^ 32) then Some n else None

-- the seat's number, where it has 32 bits
abbrev pub seat_at : Data → Option ℕ
seat_at d = option_and_then in_word (whole_at (codes "seat") d)

-- in every market the data is the entry that an object of these members is, or both are none
abbrev pub HasFields : Members → Data → Type 0
HasFields fields d = (seats levels : ℕ) → seats < 2 ^ 32 → entry_in seats levels (object fields) ≡ entry_in seats levels d
