use Rattle.std.proofs.Common.{◌≤◌}
use Rattle.market_types.specs.State.{Arena}
use Rattle.market_core.specs.Sound.{IsSound}
use Rattle.market_core.proofs.Numbers.{All-found}
use Rattle.market_core.proofs.market.Market.arenas_are_leveled.Goals as goal

pub returns : goal.returns
returns c = λ a there.
    let s = c.args.self.now in
    let sound : IsSound s = rw c.self.view_is at c.self.invariant.sound in
    All-found (λ (b : Arena). (1 ≤ b.level) × (b.level ≤ s.levels)) a.number s.arenas a there sound.leveled
