-- The markets that are measured. Each is nothing where one of the commands that make it is refused.
use Rattle.std.specs.Prelude.{ℕ, ◌+◌, ◌-◌, ◌%◌, pos, length, Option, option_and_then, option_map}
use Rattle.market_types.specs.State.{State, opening}
use Rattle.market_types.specs.Step.{step}
use Rattle.market_types.specs.declared.command.Cmd.{Cmd}
use Rattle.market_types.specs.declared.command.Cmd.TheVariants.{Open, Request, Join}
use Rattle.market_bench.specs.Repeated.{repeated}
use Rattle.market_bench.specs.Replies.{number_in}
use Rattle.market_bench.specs.declared.scenario.Scenario.{Scenario}
use Rattle.market_bench.specs.declared.scenario.Scenario.TheVariants.{JoinInVain, RequestJoin}

-- the market after a seat's command
abbrev pub after : ℕ → Cmd → State → Option State
after seat cmd s = option_map (λ number. (step s seat cmd).1) (number_in (step s seat cmd).0)

-- with one more arena, of 8 slots of which 1 is reserved, that asked for 3 workers
abbrev pub with_arena : ℕ → ℕ → State → Option State
with_arena arena level s = option_and_then (after 0 (Request arena (pos 3) (pos 0))) (after 0 (Open 8 1 level) s)

-- with so many arenas, numbered from 1 on, level by level in turn
abbrev pub with_arenas : ℕ → ℕ → State → Option State
with_arenas levels arenas s = repeated (λ place. with_arena (place + 1) (place % levels + 1)) s arenas

-- after so many seats joined, from seat 1 on
abbrev pub with_joined : ℕ → State → Option State
with_joined seats s = repeated (λ other. after (other + 1) Join) s seats

-- after every seat but seat 0 joined
abbrev pub with_others : State → Option State
with_others s = with_joined (length s.seats - 1) s

-- a market of 64 seats with so many arenas
abbrev pub filled : ℕ → ℕ → ℕ → Option State
filled base levels arenas = with_arenas levels arenas (opening base 65535 64 levels)

-- the market in which a scenario is measured: 64 workers may be active; where one is to join in vain, 63, and every seat but
-- seat 0 joined
abbrev pub stage_of : Scenario → ℕ → ℕ → Option State
stage_of JoinInVain levels arenas = option_and_then with_others (filled 64 levels arenas)
stage_of RequestJoin levels arenas = option_and_then with_others (filled 64 levels arenas)
stage_of _ levels arenas = filled 65 levels arenas
