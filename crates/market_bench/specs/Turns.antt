-- What a scenario's turns are, and what their replies add up to.
use Rattle.std.specs.Prelude.{ℕ, ◌+◌, ◌*◌, ◌/◌, ◌%◌, ◌^◌, ◌==◌, bit_xor, pos, negsuc, if◌then◌else◌, Bool, true, false, List, [], ◌∷◌, Option, Some, option_and_then, option_map}
use Rattle.market_types.specs.State.{State}
use Rattle.market_types.specs.Step.{step}
use Rattle.market_types.specs.declared.command.Cmd.{Cmd}
use Rattle.market_types.specs.declared.command.Cmd.TheVariants.{Request, Join, Stay, Leave, Show, Lists}
use Rattle.market_bench.specs.Repeated.{repeated}
use Rattle.market_bench.specs.Replies.{number_in}
use Rattle.market_bench.specs.declared.scenario.Scenario.{Scenario}
use Rattle.market_bench.specs.declared.scenario.Scenario.TheVariants as scenario

-- a turn may have this command, which opens and closes no arena
abbrev pub is_in_turns : Cmd → Bool
is_in_turns (Request arena workers mandatory) = true
is_in_turns Join = true
is_in_turns Stay = true
is_in_turns Leave = true
is_in_turns (Show arena) = true
is_in_turns Lists = true
is_in_turns _ = false

-- how many turns a round has
abbrev pub turns_of : Scenario → ℕ
turns_of scenario.Request = 50000
turns_of scenario.RequestShow = 50000
turns_of scenario.JoinStayLeave = 20000
turns_of scenario.JoinInVain = 2000
turns_of scenario.RequestJoin = 2000
turns_of scenario.Lists = 1000

-- the arena of a turn among so many, spread evenly by a multiplicative hash of 64 bits
abbrev pub arena_in : ℕ → ℕ → ℕ
arena_in arenas turn =
    let low = turn * 0x9e3779b97f4a7c15 % 2 ^ 64 in
    let mixed = bit_xor low (low / 2 ^ 29) * 0xbf58476d1ce4e5b9 % 2 ^ 64 in
    bit_xor mixed (mixed / 2 ^ 32) % arenas + 1

-- an arena asks for one worker more in an even turn, and for one less in the odd turn after it
abbrev pub request_in : ℕ → ℕ → Cmd
request_in arenas turn =
    Request (arena_in arenas (turn / 2)) (if turn % 2 == 0 then pos 1 else negsuc 0) (pos 0)

-- the commands of a turn, all of seat 0
abbrev pub commands_of : Scenario → ℕ → ℕ → List Cmd
commands_of scenario.Request arenas turn = request_in arenas turn ∷ []
commands_of scenario.RequestShow arenas turn = request_in arenas turn ∷ Show (arena_in arenas turn) ∷ []
commands_of scenario.JoinStayLeave arenas turn = Join ∷ Stay ∷ Leave ∷ []
commands_of scenario.JoinInVain arenas turn = Join ∷ []
commands_of scenario.RequestJoin arenas turn = Request (arena_in arenas turn) (pos 0) (pos 0) ∷ Join ∷ []
commands_of scenario.Lists arenas turn = Lists ∷ []

-- a sum of 64 bits, and the market
abbrev pub Sum : Type 0
Sum = ℕ × State

-- the sum with what the replies to seat 0's commands add, and the market after them; nothing where one is refused
abbrev pub sum_after : ℕ → State → List Cmd → Option Sum
sum_after sum s [] = Some (sum, s)
sum_after sum s (cmd ∷ cmds) =
    option_and_then (λ n. sum_after ((sum + n) % 2 ^ 64) (step s 0 cmd).1 cmds) (number_in (step s 0 cmd).0)

-- the sum of one turn's replies
abbrev pub turn_of : Scenario → ℕ → ℕ → State → Option Sum
turn_of scenario arenas turn s = sum_after 0 s (commands_of scenario arenas turn)

-- a sum with one more turn's
abbrev pub with_turn : Scenario → ℕ → ℕ → Sum → Option Sum
with_turn scenario arenas turn so_far =
    option_map (λ (sum : Sum). ((so_far.0 + sum.0) % 2 ^ 64, sum.1)) (turn_of scenario arenas turn so_far.1)

-- the sum of the first turns' sums
abbrev pub turns_after : Scenario → ℕ → State → ℕ → Option Sum
turns_after scenario arenas s turns = repeated (with_turn scenario arenas) (0, s) turns

-- the sum of a round
abbrev pub round_of : Scenario → ℕ → State → Option Sum
round_of scenario arenas s = turns_after scenario arenas s (turns_of scenario)

-- the market after a round
abbrev pub after_round : Scenario → ℕ → State → Option State
after_round scenario arenas s = option_map (λ (sum : Sum). sum.1) (round_of scenario arenas s)

-- the market after so many rounds
abbrev pub after_rounds : Scenario → ℕ → State → ℕ → Option State
after_rounds scenario arenas s rounds = repeated (λ _. after_round scenario arenas) s rounds
