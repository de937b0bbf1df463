use Rattle.std.proofs.Common.{◌≡◌, ◌∙◌, ◌<◌, ◌++◌, ◌-◌, [], ◌∷◌, Some, ap, arith, get_or, length, refl, subst, sym}
use Rattle.std.specs.Prelude.{slice_get}
use Rattle.std.proofs.lemmas.Option.{slice_get_read}
use Rattle.market_types.specs.State.{opening}
use Rattle.market_types.specs.Allotment.{allotment_of}
use Rattle.market_types.specs.History.{state_after}
use Rattle.market_drive.specs.Making.{founding}
use Rattle.market_drive.specs.Servable.{asks_if, calls_of_first, lone_state}
use Rattle.market_drive.proofs.servable.lone_allotment.Goals as goal

pub returns : goal.returns
returns c =
    let p = c.args.plan.now in
    let a = c.args.arena in
    let arena = c.index-arenas-place.result in
    let is : arena ≡ get_or p.arenas (a - 1) arena =
    subst (λ arenas. arena ≡ get_or arenas (a - 1) arena) c.arenas.ensures.exact
    (subst (λ n. arena ≡ get_or c.arenas.result.now (n - 1) arena) c.get.ensures c.index-arenas-place.is) in
    let within : a - 1 < length p.arenas = omega (arith, c.requires.low, c.requires.high) in
    let there : slice_get p.arenas (a - 1) ≡ Some arena = slice_get_read p.arenas (length p.arenas) (a - 1) arena refl within is in
    let commands : c.deref.result.now ≡ founding p ++ asks_if a (slice_get p.arenas (a - 1)) =
    c.deref.ensures.value ∙ c.in_ok-push.ensures.items
    ∙ ap (λ cmds. cmds ++ c.request.result ∷ []) c.in_ok-commands.ensures
    ∙ ap (λ cmd. founding p ++ cmd ∷ []) c.request.ensures
    ∙ ap (λ found. founding p ++ asks_if a found) (sym there) in
    let market : c.give.new.market ≡ lone_state p a =
    c.in_ok-give.ensures
    ∙ ap (λ s. state_after s (calls_of_first c.deref.result.now)) c.in_ok-market.ensures
    ∙ ap (λ cmds. state_after (opening p.base p.hard 1 p.levels) (calls_of_first cmds)) commands in
    c.allotment.ensures ∙ ap (λ s. allotment_of s a) market
