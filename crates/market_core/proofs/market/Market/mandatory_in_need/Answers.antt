use Rattle.std.proofs.Common.{arith, sym, ap, ◌∙◌, ◌≡◌, Some, None}
use Rattle.market_types.specs.State.{State}
use Rattle.market_types.specs.Allotment.{active}
use Rattle.allotment.specs.Levels.{pick_of}
use Rattle.market_core.proofs.InNeed.{need-unpicked, need-served, need-picked}
use Rattle.market_core.proofs.market.Market.mandatory_in_need.Goals as goal

pub returns-in_err-picked-clause-exact : goal.returns-in_err-picked-clause-exact
returns-in_err-picked-clause-exact c =
    let s = c.args.self.now in
    let nobody : pick_of s ≡ None = sym (c.divide.ensures.exact.picked c.requires.none) ∙ c.in_err-picked.was in
    c.from_residual.ensures ∙ sym (need-unpicked s c.requires.none nobody)

pub returns-then-hire-gt0-clause-exact : goal.returns-then-hire-gt0-clause-exact
returns-then-hire-gt0-clause-exact c =
    let s = c.args.self.now in
    let picked = c.in_ok-picked.picked in
    let here : pick_of s ≡ Some picked = sym (c.divide.ensures.exact.picked c.requires.none) ∙ c.in_ok-picked.was in
    let placed : c.active.result ≡ active s picked = c.active.ensures.exact ∙ ap (λ (t : State). active t picked) c.self.view_is in
    sym (need-picked s picked c.requires.none here (omega (arith, c.if-hire-gt0.true, c.hire.ensures.exact, c.divide.ensures.exact.bound)))

pub returns-else-hire-gt0-clause-exact : goal.returns-else-hire-gt0-clause-exact
returns-else-hire-gt0-clause-exact c =
    let s = c.args.self.now in
    let picked = c.in_ok-picked.picked in
    let here : pick_of s ≡ Some picked = sym (c.divide.ensures.exact.picked c.requires.none) ∙ c.in_ok-picked.was in
    let placed : c.active.result ≡ active s picked = c.active.ensures.exact ∙ ap (λ (t : State). active t picked) c.self.view_is in
    sym (need-served s picked c.requires.none here (omega (arith, c.if-hire-gt0.false, c.hire.ensures.exact, c.divide.ensures.exact.bound)))
