use Rattle.std.proofs.Common.{◌++◌, sym, subst}
use Rattle.market_types.specs.State.{State}
use Rattle.edit_history.specs.Chronicled.{Chronicled, HasNumbersOf}
use Rattle.edit_history.proofs.Placed.{numbers-after}
use Rattle.edit_history.proofs.chronicle.Chronicle.market.Goals as goal

pub returns-clause-numbers : goal.returns-clause-numbers
returns-clause-numbers c =
    let inside : HasNumbersOf c.self.inside.opened.value c.self.inside.market =
    subst (λ (s : State). HasNumbersOf c.self.inside.opened.value s) (sym c.self.invariant.market_is) (numbers-after c.self.inside.opened.value (c.self.inside.past ++ c.self.inside.recent.items)) in
    subst (λ (d : Chronicled). HasNumbersOf d.start c.self.inside.market) c.self.view_is inside
