use Rattle.std.proofs.Common.{◌≡◌, ◌∙◌, ◌<◌, ◌≤◌, ◌++◌, ◌+◌, [], ◌∷◌, ap, append_assoc, arith, get_or, length, subst, sym, take}
use Rattle.std.proofs.lemmas.List.{take_all}
use Rattle.market_drive.specs.Making.{asks, founding, requests}
use Rattle.market_drive.proofs.Requests.{length-requests, requests_more}
use Rattle.market_drive.proofs.commands.plan_commands.Goals as goal

pub loop-index-preserved : goal.loop-index-preserved
loop-index-preserved c =
    let p = c.args.plan.now in
    let i = c.loop-index.index in
    let arena = c.arena-item.result in
    let within : i < length p.arenas = subst (λ xs. i < length xs) c.arenas-arena-items.ensures.exact c.loop-index-test.true in
    let is : arena ≡ get_or p.arenas i arena = subst (λ xs. arena ≡ get_or xs i arena) c.arenas-arena-items.ensures.exact c.arena-item.is in
    let number : c.request.result ≡ asks (i + 1) arena = c.request.ensures ∙ ap (λ n. asks n arena) c.new.ensures in
    c.in_ok-push.ensures.items
    ∙ ap (λ cmds. cmds ++ c.request.result ∷ []) c.loop-index.invariant
    ∙ ap (λ cmd. (founding p ++ take i (requests p)) ++ cmd ∷ []) number
    ∙ append_assoc (founding p) (take i (requests p)) (asks (i + 1) arena ∷ [])
    ∙ ap (λ cmds. founding p ++ cmds) (sym (requests_more p i arena within is))

pub returns : goal.returns
returns c =
    let p = c.args.plan.now in
    let i = c.loop-index.index in
    let many : length (requests p) ≤ i = omega (arith, length-requests p, ap length c.arenas-arena-items.ensures.exact, c.loop-index-test.false) in
    record { exact = c.loop-index.invariant ∙ ap (λ cmds. founding p ++ cmds) (take_all i (requests p) many) }
