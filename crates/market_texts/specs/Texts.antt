-- The written texts of commands, faults and replies: bytes of ASCII, numbers in decimal.
use Rattle.std.specs.Prelude.{ℕ, List, [], ◌∷◌, ◌++◌, map, Bool, true, false, if◌then◌else◌, ◌==◌, ◌&&◌, nat_le, codes, decimal}
use Rattle.std.specs.Fmt.{signed_decimal}
use Rattle.std.specs.List.{join_with_byte}
use Rattle.market_types.specs.declared.command.Cmd.{Cmd}
use Rattle.market_types.specs.declared.command.Cmd.TheVariants.{Open, Close, Priority, Resize, Request, Control as ControlBy, Uncontrol, Join, Stay, Leave, Show, Lists, Limit}
use Rattle.market_types.specs.declared.reply.Fault.{Fault}
use Rattle.market_types.specs.declared.reply.Fault.TheVariants.{BadSlots, BadReserve, TooManyArenas, OutOfNumbers, NoArena, Busy, WantedRange, MandatoryRange, BadValue, TooManyControls, NoControl, AlreadyPlaced, NotPlaced, BadLevel}
use Rattle.market_types.specs.declared.reply.OpenFault.{OpenFault}
use Rattle.market_types.specs.declared.reply.OpenFault.TheVariants.{BadBase, BadHard, BadSeats, BadPlaces, BadLevels, Memory}
use Rattle.market_types.specs.declared.reply.ArenaView.{ArenaView}
use Rattle.market_types.specs.declared.reply.LimitView.{LimitView}
use Rattle.market_types.specs.declared.reply.Reply.{Reply}
use Rattle.market_types.specs.declared.reply.Reply.TheVariants.{Opened, Closed, Moved, Resized, Requested, Controlled, Uncontrolled, Placed, Idle, Stays, Recalled, Left, Shown, Listed, Limits, Refused}

-- ---- commands

-- the names of three levels
abbrev pub level_name : ℕ → List ℕ
level_name level =
    if level == 1 then codes "high"
    else if level == 2 then codes "normal"
    else codes "low"

-- a level has a name where it is one of three
abbrev pub has_name : ℕ → ℕ → Bool
has_name levels level = levels == 3 && nat_le level 3

-- a level's text in a market of so many levels: its name where it has one, else its number
abbrev pub level_text : ℕ → ℕ → List ℕ
level_text levels level = if has_name levels level then level_name level else decimal level

-- the canonical text of a command in a market of so many levels
abbrev pub cmd_text : ℕ → Cmd → List ℕ
cmd_text levels (Open slots reserved level) =
    codes "open " ++ (decimal slots ++ (codes " " ++ (decimal reserved ++ (codes " " ++ level_text levels level))))
cmd_text levels (Close arena) = codes "close " ++ decimal arena
cmd_text levels (Priority arena level) =
    codes "priority " ++ (decimal arena ++ (codes " " ++ level_text levels level))
cmd_text levels (Resize arena slots reserved) =
    codes "resize " ++ (decimal arena ++ (codes " " ++ (decimal slots ++ (codes " " ++ decimal reserved))))
cmd_text levels (Request arena workers mandatory) =
    codes "request " ++ (decimal arena ++ (codes " " ++ (signed_decimal workers ++ (codes " " ++ signed_decimal mandatory))))
cmd_text levels (ControlBy value) = codes "control " ++ decimal value
cmd_text levels (Uncontrol control) = codes "uncontrol " ++ decimal control
cmd_text levels Join = codes "join"
cmd_text levels Stay = codes "stay"
cmd_text levels Leave = codes "leave"
cmd_text levels (Show arena) = codes "show " ++ decimal arena
cmd_text levels Lists = codes "lists"
cmd_text levels Limit = codes "limit"

-- ---- faults

abbrev pub fault_text : Fault → List ℕ
fault_text BadSlots = codes "F01 bad slots"
fault_text BadReserve = codes "F02 bad reserve"
fault_text TooManyArenas = codes "F03 too many arenas"
fault_text OutOfNumbers = codes "F04 out of numbers"
fault_text NoArena = codes "F05 no arena"
fault_text (Busy seats) = codes "F06 busy " ++ decimal seats
fault_text WantedRange = codes "F07 wanted range"
fault_text MandatoryRange = codes "F08 mandatory range"
fault_text BadValue = codes "F09 bad value"
fault_text TooManyControls = codes "F10 too many controls"
fault_text NoControl = codes "F11 no control"
fault_text (AlreadyPlaced arena) = codes "F12 already placed " ++ decimal arena
fault_text NotPlaced = codes "F13 not placed"
fault_text BadLevel = codes "F14 bad level"

abbrev pub open_fault_text : OpenFault → List ℕ
open_fault_text BadBase = codes "O1 bad base"
open_fault_text BadHard = codes "O2 bad hard"
open_fault_text BadSeats = codes "O3 bad seats"
open_fault_text BadPlaces = codes "O4 bad places"
open_fault_text BadLevels = codes "O5 bad levels"
open_fault_text Memory = codes "memory"

-- ---- replies

abbrev pub yes_no : Bool → List ℕ
yes_no true = codes "yes"
yes_no false = codes "no"

abbrev pub view_text : ArenaView → List ℕ
view_text v =
    codes "arena " ++ (decimal v.arena
    ++ (codes " request " ++ (decimal v.request
    ++ (codes " allot " ++ (decimal v.allot
    ++ (codes " top " ++ (yes_no v.top
    ++ (codes " active " ++ (decimal v.active
    ++ (codes " recall " ++ (decimal v.recall
    ++ (codes " hire " ++ decimal v.hire))))))))))))

abbrev pub limit_text : LimitView → List ℕ
limit_text v =
    codes "value " ++ (decimal v.value
    ++ (codes " limit " ++ (decimal v.limit
    ++ (codes " effective " ++ decimal v.effective))))

-- an arena and its count
abbrev pub count_text : ℕ × ℕ → List ℕ
count_text e = decimal e.0 ++ (codes ":" ++ decimal e.1)

-- arenas and their counts, joined by commas; of none a dash
abbrev pub counts_text : List (ℕ × ℕ) → List ℕ
counts_text [] = codes "-"
counts_text (e ∷ es) = join_with_byte 44 (map count_text (e ∷ es))

abbrev pub reply_text : Reply → List ℕ
reply_text (Opened arena) = codes "arena " ++ decimal arena
reply_text Closed = codes "ok"
reply_text Moved = codes "ok"
reply_text (Resized request) = codes "resized " ++ decimal request
reply_text (Requested request) = codes "request " ++ decimal request
reply_text (Controlled control) = codes "control " ++ decimal control
reply_text Uncontrolled = codes "ok"
reply_text (Placed arena) = codes "placed " ++ decimal arena
reply_text Idle = codes "idle"
reply_text (Stays arena) = codes "stays " ++ decimal arena
reply_text (Recalled arena) = codes "recalled " ++ decimal arena
reply_text (Left arena) = codes "left " ++ decimal arena
reply_text (Shown view) = view_text view
reply_text (Listed counts) =
    codes "recall " ++ (counts_text counts.recalls ++ (codes " hire " ++ counts_text counts.hires))
reply_text (Limits view) = limit_text view
reply_text (Refused fault) = fault_text fault
