-- How commands are spelled, and what a line reads as. Fields are separated by exactly one space.
use Rattle.std.specs.Prelude.{ℕ, ◌+◌, ◌/◌, ◌^◌, ◌&&◌, ◌||◌, not, ℤ, pos, neg_ℤ, List, [], ◌∷◌, ◌++◌, map, length, drop, slice_index, ◌==◌, nat_lt, nat_le, Bool, true, false, if◌then◌else◌, Option, Some, None, option_map, option_and_then, codes, decimal}
use Rattle.std.specs.Fmt.{signed_decimal}
use Rattle.std.specs.Str.{bytes_eq, all_ascii_digits}
use Rattle.std.specs.Str.Parse.{digits_value}
use Rattle.std.specs.List.{slice_split}
use Rattle.market_types.specs.declared.command.Cmd.{Cmd}
use Rattle.market_types.specs.declared.command.Cmd.TheVariants.{Open, Close, Priority, Resize, Request, Control as ControlBy, Uncontrol, Join, Stay, Leave, Show, Lists, Limit}
use Rattle.market_types.specs.Commands.{is_zero}
use Rattle.market_texts.specs.Texts.{has_name, level_name, cmd_text}

-- ---- spellings

-- the level of an arena whose line names none: the middle one
abbrev pub middle_level : ℕ → ℕ
middle_level levels = (levels + 1) / 2

-- the texts that spell a level: its number, and its name where it has one
abbrev pub level_spellings : ℕ → ℕ → List (List ℕ)
level_spellings levels level =
    if has_name levels level then level_name level ∷ decimal level ∷ [] else decimal level ∷ []

-- a text, where it is allowed
abbrev pub if_allowed : Bool → List ℕ → List (List ℕ)
if_allowed true text = text ∷ []
if_allowed false text = []

-- the texts that spell a command in a market of so many levels: its canonical text, and what leaves out a default or
-- writes a level by its number
abbrev pub spellings : ℕ → Cmd → List (List ℕ)
spellings levels (Open slots reserved level) =
    map (λ text. codes "open " ++ (decimal slots ++ (codes " " ++ (decimal reserved ++ (codes " " ++ text))))) (level_spellings levels level)
    ++ (if_allowed (level == middle_level levels) (codes "open " ++ (decimal slots ++ (codes " " ++ decimal reserved)))
    ++ if_allowed (level == middle_level levels && reserved == 1) (codes "open " ++ decimal slots))
spellings levels (Priority arena level) =
    map (λ text. codes "priority " ++ (decimal arena ++ (codes " " ++ text))) (level_spellings levels level)
spellings levels (Request arena workers mandatory) =
    cmd_text levels (Request arena workers mandatory)
    ∷ if_allowed (is_zero mandatory) (codes "request " ++ (decimal arena ++ (codes " " ++ signed_decimal workers)))
spellings levels cmd = cmd_text levels cmd ∷ []

-- the lines that spell a seat's command: the seat, one space, and a text that spells the command
abbrev pub line_spellings : ℕ → ℕ → Cmd → List (List ℕ)
line_spellings levels seat cmd = map (λ text. decimal seat ++ (codes " " ++ text)) (spellings levels cmd)

-- ---- fields

-- the byte between fields
abbrev pub is_space : ℕ → Bool
is_space b = b == 32

-- not empty, and a first 0 (48) stands alone
abbrev pub is_plain : List ℕ → Bool
is_plain field = nat_lt 0 (length field) && ((length field == 1) || not (slice_index field 0 == 48))

-- decimal digits with no needless 0 before them
abbrev pub is_number : List ℕ → Bool
is_number field = all_ascii_digits field && is_plain field

-- a number below `bound`
abbrev pub number_below : ℕ → List ℕ → Option ℕ
number_below bound field =
    if is_number field && nat_lt (digits_value 10 field) bound then Some (digits_value 10 field) else None

-- a number of 32 bits
unfoldable pub number : List ℕ → Option ℕ
number field = number_below (2 ^ 32) field

-- the same number as a signed one of 32 bits
abbrev pub positive : ℕ → Option ℤ
positive n = if nat_lt n (2 ^ 31) then Some (pos n) else None

-- the number below 0 by so much, of 32 bits; there is no -0
abbrev pub negative : ℕ → Option ℤ
negative n = if nat_lt 0 n && nat_le n (2 ^ 31) then Some (neg_ℤ (pos n)) else None

-- a number, or `-` and a number above 0; 32 bits with the sign
unfoldable pub signed : List ℕ → Option ℤ
signed field =
    if slice_index field 0 == 45 then option_and_then negative (number (drop 1 field))
    else option_and_then positive (number field)

-- the number of a level, 1 to 8
abbrev pub in_levels : ℕ → Option ℕ
in_levels n = if nat_lt 0 n && nat_le n 8 then Some n else None

-- a level by its number, or one of three by its name
unfoldable pub level : ℕ → List ℕ → Option ℕ
level levels field =
    if levels == 3 && bytes_eq field (codes "high") then Some 1
    else if levels == 3 && bytes_eq field (codes "normal") then Some 2
    else if levels == 3 && bytes_eq field (codes "low") then Some 3
    else option_and_then in_levels (number field)

-- ---- commands, field by field

-- a command after which no field follows
abbrev pub alone : Cmd → List (List ℕ) → Option Cmd
alone cmd [] = Some cmd
alone cmd (field ∷ more) = None

-- a command of one number
abbrev pub of_number : (ℕ → Cmd) → List (List ℕ) → Option Cmd
of_number cmd [] = None
of_number cmd (field ∷ more) = option_and_then (λ n. alone (cmd n) more) (number field)

-- open, after slots and reserved slots: the level, or the middle one where the text ends
abbrev pub open_level : ℕ → ℕ → ℕ → List (List ℕ) → Option Cmd
open_level levels slots reserved [] = option_map (λ l. Open slots reserved l) (in_levels (middle_level levels))
open_level levels slots reserved (field ∷ more) = option_and_then (λ l. alone (Open slots reserved l) more) (level levels field)

-- open, after slots: the reserved slots, or 1 where the text ends
abbrev pub open_reserved : ℕ → ℕ → List (List ℕ) → Option Cmd
open_reserved levels slots [] = option_map (λ l. Open slots 1 l) (in_levels (middle_level levels))
open_reserved levels slots (field ∷ more) = option_and_then (λ reserved. open_level levels slots reserved more) (number field)

-- open: slots first
abbrev pub open_reading : ℕ → List (List ℕ) → Option Cmd
open_reading levels [] = None
open_reading levels (field ∷ more) = option_and_then (λ slots. open_reserved levels slots more) (number field)

-- priority, after the arena: the level
abbrev pub priority_level : ℕ → ℕ → List (List ℕ) → Option Cmd
priority_level levels arena [] = None
priority_level levels arena (field ∷ more) = option_and_then (λ l. alone (Priority arena l) more) (level levels field)

-- priority: the arena first
abbrev pub priority_reading : ℕ → List (List ℕ) → Option Cmd
priority_reading levels [] = None
priority_reading levels (field ∷ more) = option_and_then (λ arena. priority_level levels arena more) (number field)

-- resize, after the arena: slots and reserved slots
abbrev pub resize_slots : ℕ → List (List ℕ) → Option Cmd
resize_slots arena [] = None
resize_slots arena (field ∷ more) = option_and_then (λ slots. of_number (Resize arena slots) more) (number field)

-- resize: the arena first
abbrev pub resize_reading : List (List ℕ) → Option Cmd
resize_reading [] = None
resize_reading (field ∷ more) = option_and_then (λ arena. resize_slots arena more) (number field)

-- request, after arena and workers: the mandatory count, or 0 where the text ends
abbrev pub request_mandatory : ℕ → ℤ → List (List ℕ) → Option Cmd
request_mandatory arena workers [] = Some (Request arena workers (pos 0))
request_mandatory arena workers (field ∷ more) =
    option_and_then (λ mandatory. alone (Request arena workers mandatory) more) (signed field)

-- request, after the arena: workers
abbrev pub request_workers : ℕ → List (List ℕ) → Option Cmd
request_workers arena [] = None
request_workers arena (field ∷ more) = option_and_then (λ workers. request_mandatory arena workers more) (signed field)

-- request: the arena first
abbrev pub request_reading : List (List ℕ) → Option Cmd
request_reading [] = None
request_reading (field ∷ more) = option_and_then (λ arena. request_workers arena more) (number field)

-- a command by its word and the fields after it
unfoldable pub command_of : ℕ → List (List ℕ) → Option Cmd
command_of levels [] = None
command_of levels (word ∷ more) =
    if bytes_eq word (codes "open") then open_reading levels more
    else if bytes_eq word (codes "close") then of_number Close more
    else if bytes_eq word (codes "priority") then priority_reading levels more
    else if bytes_eq word (codes "resize") then resize_reading more
    else if bytes_eq word (codes "request") then request_reading more
    else if bytes_eq word (codes "control") then of_number ControlBy more
    else if bytes_eq word (codes "uncontrol") then of_number Uncontrol more
    else if bytes_eq word (codes "join") then alone Join more
    else if bytes_eq word (codes "stay") then alone Stay more
    else if bytes_eq word (codes "leave") then alone Leave more
    else if bytes_eq word (codes "show") then of_number Show more
    else if bytes_eq word (codes "lists") then alone Lists more
    else if bytes_eq word (codes "limit") then alone Limit more
    else None

-- ---- whole lines

-- the command that a text spells
unfoldable pub reading : ℕ → List ℕ → Option Cmd
reading levels text = command_of levels (slice_split is_space text)

-- a seat below the number of seats
abbrev pub in_seats : ℕ → ℕ → Option ℕ
in_seats seats n = if nat_lt n seats then Some n else None

-- a seat by the first field, and its command by the others
abbrev pub call_of : ℕ → ℕ → List (List ℕ) → Option (ℕ × Cmd)
call_of seats levels [] = None
call_of seats levels (word ∷ more) =
    option_and_then (λ seat. option_map (λ (cmd : Cmd). (seat, cmd)) (command_of levels more))
    (option_and_then (in_seats seats) (number word))

-- the seat and the command that a line of a script spells
unfoldable pub line_reading : ℕ → ℕ → List ℕ → Option (ℕ × Cmd)
line_reading seats levels line = call_of seats levels (slice_split is_space line)
