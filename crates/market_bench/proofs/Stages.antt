-- A command that stops, stops what makes a market.
use Rattle.std.proofs.Common.{◌≡◌, ℕ, ◌+◌, ◌<◌, ◌%◌, Some, None, refl}
use Rattle.market_types.specs.State.{State}
use Rattle.market_types.specs.Step.{step}
use Rattle.market_types.specs.declared.command.Cmd.TheVariants.{Join}
use Rattle.market_types.specs.declared.reply.Reply.{Reply}
use Rattle.market_bench.proofs.Repeated.{ends_all}
use Rattle.market_bench.specs.Faults.{Stops}
use Rattle.market_bench.specs.Replies.{number_in}
use Rattle.market_bench.specs.Stages.{after, with_arena, with_arenas, with_joined}
use Rattle.market_bench.specs.declared.fault.TurnFault.{TurnFault}
use Rattle.market_bench.specs.declared.fault.TurnFault.TheVariants.{Memory, Refused}

-- a Join is stopped by a refusal alone
refused_join : (fault : TurnFault) (reply : Reply) → Stops fault Join reply → number_in reply ≡ None
refused_join Memory reply stops = cc
refused_join Refused reply stops = stops

pub stops_joins : (fault : TurnFault) (s now : State) (other seats : ℕ) → with_joined other s ≡ Some now → other < seats → Stops fault Join (step now (other + 1) Join).0 → with_joined seats s ≡ None
stops_joins fault s now other seats before less stops =
    let refused : number_in (step now (other + 1) Join).0 ≡ None = refused_join fault (step now (other + 1) Join).0 stops in
    let none : after (other + 1) Join now ≡ None = rw (refused) refl in
    ends_all (λ k. after (k + 1) Join) s now other seats before less none

pub stops_opens : (levels : ℕ) (s now : State) (place arenas : ℕ) → with_arenas levels place s ≡ Some now → place < arenas → with_arena (place + 1) (place % levels + 1) now ≡ None → with_arenas levels arenas s ≡ None
stops_opens levels s now place arenas before less none =
    ends_all (λ k. with_arena (k + 1) (k % levels + 1)) s now place arenas before less none
