-- What the table tells.
use Rattle.std.specs.Prelude.{ℕ, List, codes, Option, option_and_then, option_map}
use Rattle.market_bench.specs.Stages.{stage_of}
use Rattle.market_bench.specs.Turns.{Sum, round_of}
use Rattle.market_bench.specs.declared.scenario.Scenario.{Scenario}
use Rattle.market_bench.specs.declared.scenario.Scenario.TheVariants.{Request, RequestShow, JoinStayLeave, JoinInVain, RequestJoin, Lists}

-- what the table calls a scenario
abbrev pub heading_of : Scenario → List ℕ
heading_of Request = codes "request"
heading_of RequestShow = codes "request, show"
heading_of JoinStayLeave = codes "join, stay, leave"
heading_of JoinInVain = codes "join in vain"
heading_of RequestJoin = codes "request, join"
heading_of Lists = codes "lists"

-- the sum of the replies to the first round in a scenario's market
abbrev pub sum_in : Scenario → ℕ → ℕ → Option ℕ
sum_in scenario levels arenas =
    option_map (λ (sum : Sum). sum.0) (option_and_then (round_of scenario arenas) (stage_of scenario levels arenas))
