use Rattle.std.proofs.Common.{subst}
use Rattle.market_types.specs.State.{State}
use Rattle.market_types.specs.Allotment.{assigned}
use Rattle.arena_store.specs.Arenas.{StandOnce}
use Rattle.market_core.specs.Sound.{IsSound}
use Rattle.market_core.proofs.Totals.{within}
use Rattle.market_core.proofs.market.Market.arenas_are_within.Goals as goal

pub returns : goal.returns
returns c = λ a there.
    let s = c.args.self.now in
    let sound : IsSound s = rw c.self.view_is at c.self.invariant.sound in
    let once : StandOnce s.arenas = subst (λ (t : State). StandOnce t.arenas) c.self.view_is c.stand_once.ensures in
    within s a once sound.leveled c.no_carry_to_keep.ensures.no_more_than_asked (c.no_carry_to_keep.ensures.after_a_level s (assigned s)) there
