use Rattle.std.specs.Prelude.{ℕ, ◌<◌, ◌≤◌, ◌^◌, ℤ, pos, negsuc, ◌==◌, Bool, true, false, FitsSigned}
use Rattle.std.specs.Int.{w32}
use Rattle.market_types.specs.declared.command.Cmd.{Cmd}
use Rattle.market_types.specs.declared.command.Cmd.TheVariants.{Open, Close, Priority, Resize, Request, Control as ControlBy, Uncontrol, Join, Stay, Leave, Show}

-- the command may place or unplace its seat (own)
abbrev pub moves_seat : Cmd → Bool
moves_seat Join = true
moves_seat Stay = true
moves_seat Leave = true
moves_seat _ = false

abbrev pub is_zero : ℤ → Bool
is_zero (pos n) = n == 0
is_zero (negsuc n) = false

-- a level is 1 to 8
abbrev pub FitsLevel : ℕ → Type 0
FitsLevel level = (1 ≤ level) × (level ≤ 8)

-- each number of the command is one that the command can hold: unsigned or signed 32 bits, or a level
abbrev pub Fits : Cmd → Type 0
Fits (Open slots reserved level) = (slots < 2 ^ 32) × (reserved < 2 ^ 32) × FitsLevel level
Fits (Close arena) = arena < 2 ^ 32
Fits (Priority arena level) = (arena < 2 ^ 32) × FitsLevel level
Fits (Resize arena slots reserved) = (arena < 2 ^ 32) × (slots < 2 ^ 32) × (reserved < 2 ^ 32)
Fits (Request arena workers mandatory) = (arena < 2 ^ 32) × FitsSigned w32 workers × FitsSigned w32 mandatory
Fits (ControlBy value) = value < 2 ^ 32
Fits (Uncontrol control) = control < 2 ^ 32
Fits (Show arena) = arena < 2 ^ 32
Fits _ = Unit {0}
