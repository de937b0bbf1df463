use Rattle.std.proofs.Common.{◌≡◌, false, Some, sym, ap, ◌∙◌}
use Rattle.market_types.specs.State.{State}
use Rattle.journal_chart.specs.declared.row.Known.{Known}
use Rattle.journal_chart.specs.Spots.{spot_told}
use Rattle.journal_chart.specs.Steps.{closed_row, is_spared, place_of, respotted, share_of, spot_of}
use Rattle.journal_chart.proofs.nearby.settle_other.Goals as goal

-- the row is the closed one, and its arena's spot goes by what is then covered
pub returns-clause-exact : goal.returns-clause-exact
returns-clause-exact g c = λ cmd reply.
    let s : State = c.args.market.now in
    let known : Known = c.args.known.now in
    let spared : is_spared c.args.now.now known c.args.level ≡ false = sym c.is_spared.ensures ∙ c.if-is_spared.false in
    let before = c.portion_of-share.ensures.before ∙ ap (λ a. place_of s c.args.now.now known a c.args.level) c.arena.ensures in
    let share = c.portion_of-share.ensures.share ∙ ap (λ a. share_of s c.args.now.now known a c.args.level) c.arena.ensures in
    let spot : c.told-known.result ≡ spot_of s c.args.now.now known c.args.row.now.arena (Some c.args.level) c.settle_share.new.known.covered =
    c.told-known.ensures
    ∙ (λ i. spot_told (before i) c.settle_share.new.known.covered known.request (c.given.ensures.exact i) (c.asked.ensures.exact i) (c.drift.ensures i)) in
    rw spared
    ((λ i. (c.settle_share.new.row, record c.settle_share.new.known { spot = spot i }))
    ∙ ap (respotted (spot_of s c.args.now.now known c.args.row.now.arena (Some c.args.level))) (c.settle_share.ensures s cmd reply)
    ∙ (λ i. respotted (spot_of s c.args.now.now known c.args.row.now.arena (Some c.args.level)) (closed_row c.args.place s cmd reply known c.args.row.now c.args.row.now (Some (share i)))))
