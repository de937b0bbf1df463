use Rattle.std.proofs.Common.{ap, ◌∙◌}
use Rattle.market_types.specs.State.{State}
use Rattle.market_types.specs.Allotment.{total_request, at_level}
use Rattle.market_core.specs.Sound.{IsSound}
use Rattle.market_core.proofs.Allotted.{are-demands}
use Rattle.market_core.proofs.market.Market.demands.Goals as goal

pub returns-clause-exact : goal.returns-clause-exact
returns-clause-exact c =
    let s = c.args.self.now in
    let sound : IsSound s = rw c.self.view_is at c.self.invariant.sound in
    are-demands s c.demands.result sound.leveled sound.levels.1 c.demands.ensures.size
    (λ level low high. c.demands.ensures.exact level low high ∙ ap (λ (s : State). total_request (at_level level s.arenas)) c.self.view_is)
