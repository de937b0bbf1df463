use Rattle.std.proofs.Common.{subst, ◌∙◌}
use Rattle.market_types.specs.State.{State}
use Rattle.arena_store.specs.Arenas.{StandOnce}
use Rattle.market_core.specs.Sound.{IsSound}
use Rattle.market_core.proofs.Totals.{total-carried, total-one}
use Rattle.market_core.proofs.market.Market.limits.Goals as goal

pub returns-clause-given_out : goal.returns-clause-given_out
returns-clause-given_out c =
    let s = c.args.self.now in
    let sound : IsSound s = rw c.self.view_is at c.self.invariant.sound in
    let once : StandOnce s.arenas = subst (λ (s : State). StandOnce s.arenas) c.self.view_is c.stand_once.ensures in
    λ some. total-carried s once sound.leveled some ∙ c.bound_is_given_out.ensures.allotted s sound.leveled

pub returns-clause-one_at_most : goal.returns-clause-one_at_most
returns-clause-one_at_most c =
    let s = c.args.self.now in
    let once : StandOnce s.arenas = subst (λ (s : State). StandOnce s.arenas) c.self.view_is c.stand_once.ensures in
    λ none. total-one s once none
