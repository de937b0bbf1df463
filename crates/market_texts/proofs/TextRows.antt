-- What lines read as, and what a script is told.
use Rattle.std.specs.Prelude.{◌≡◌, ℕ, pos, negsuc, List, [], ◌∷◌, Option, Some, None, codes, refl}
use Rattle.std.specs.Fmt.{digits}
use Rattle.market_types.specs.declared.command.Cmd.{Cmd}
use Rattle.market_types.specs.declared.command.Cmd.TheVariants.{Open, Request, Limit}
use Rattle.market_types.specs.State.{opening}
use Rattle.market_texts.specs.Reading.{line_reading, number, signed, level, command_of, spellings}
use Rattle.market_texts.specs.Script.{told, answer_of, script_lines}

-- a line of a market of 4 seats and so many levels
abbrev line : ℕ → List ℕ → Option (ℕ × Cmd)
line levels text = line_reading 4 levels text

limit : line 3 (codes "0 limit") ≡ Some (0, Limit)
unfolding line_reading number command_of
limit = refl

no_command : line 3 (codes "0 fly") ≡ None
unfolding line_reading number command_of
no_command = refl

no_seat : line 3 (codes "9 limit") ≡ None
unfolding line_reading number command_of
no_seat = refl

open_whole : line 3 (codes "0 open 8 1 normal") ≡ Some (0, Open 8 1 2)
unfolding line_reading number command_of level
open_whole = refl

open_short : line 3 (codes "0 open 8") ≡ Some (0, Open 8 1 2)
unfolding line_reading number command_of
open_short = refl

open_of_five : line 5 (codes "0 open 8 1 5") ≡ Some (0, Open 8 1 5)
unfolding line_reading number command_of level
open_of_five = refl

middle_of_five : line 5 (codes "0 open 8") ≡ Some (0, Open 8 1 3)
unfolding line_reading number command_of
middle_of_five = refl

no_names_of_five : line 5 (codes "0 open 8 1 high") ≡ None
unfolding line_reading number command_of level
no_names_of_five = refl

no_level_nine : line 3 (codes "0 open 8 1 9") ≡ None
unfolding line_reading number command_of level
no_level_nine = refl

needless_zero : line 3 (codes "00 limit") ≡ None
unfolding line_reading number command_of
needless_zero = refl

two_spaces : line 3 (codes "0  limit") ≡ None
unfolding line_reading number command_of
two_spaces = refl

trailing_space : line 3 (codes "0 limit ") ≡ None
unfolding line_reading number command_of
trailing_space = refl

trailing_cr : line 3 (codes "0 limit\r") ≡ None
unfolding line_reading number command_of
trailing_cr = refl

minus_zero : line 3 (codes "0 request 1 -0") ≡ None
unfolding line_reading number command_of signed
minus_zero = refl

below_zero : line 3 (codes "0 request 1 -5") ≡ Some (0, Request 1 (negsuc 4) (pos 0))
unfolding line_reading number command_of signed
below_zero = refl

beyond_i32 : line 3 (codes "0 request 1 2147483648") ≡ None
unfolding line_reading number command_of signed
beyond_i32 = refl

beyond_u32 : line 3 (codes "0 show 4294967296") ≡ None
unfolding line_reading number command_of
beyond_u32 = refl

-- of these, three lines read and one is answered
script : told (opening 8 64 4 3) (codes "0 fly\n9 limit\n0 limit\n")
    ≡ record { text = codes "unread\nunread\nvalue 8 limit 7 effective 7\n"; unread = 2; last = opening 8 64 4 3 }
unfolding told script_lines answer_of line_reading number command_of digits
script = refl

-- the last line needs no end, and empty lines and comments are silent
silent : told (opening 8 64 4 3) (codes "\n# 0 limit\n0 limit")
    ≡ record { text = codes "value 8 limit 7 effective 7\n"; unread = 0; last = opening 8 64 4 3 }
unfolding told script_lines answer_of line_reading number command_of digits
silent = refl

-- all the ways to spell one command
spelled : spellings 3 (Open 8 1 2) ≡ codes "open 8 1 normal" ∷ codes "open 8 1 2" ∷ codes "open 8 1" ∷ codes "open 8" ∷ []
unfolding digits
spelled = refl

spelled_once : spellings 3 (Open 8 2 1) ≡ codes "open 8 2 high" ∷ codes "open 8 2 1" ∷ []
unfolding digits
spelled_once = refl
