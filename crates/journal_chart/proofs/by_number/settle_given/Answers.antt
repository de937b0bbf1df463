use Rattle.std.specs.Prelude.{unwrap_or}
use Rattle.std.proofs.Common.{◌≡◌, ℕ, Some, ap, ◌∙◌}
use Rattle.market_types.specs.Allotment.{allotment_of, at_level}
use Rattle.market_types.specs.State.{State}
use Rattle.market_core.specs.Ahead.{asked_ahead}
use Rattle.journal_chart.specs.declared.covered.Covered.{Covered}
use Rattle.journal_chart.specs.declared.row.Known.{Known}
use Rattle.journal_chart.specs.declared.spot.Spot.{Spot}
use Rattle.journal_chart.specs.Covering.{exactly}
use Rattle.journal_chart.specs.Spots.{place_told, spot_told}
use Rattle.journal_chart.specs.Steps.{closed_row, respotted}
use Rattle.journal_chart.proofs.by_number.settle_given.Goals as goal

-- the row is the closed one, and its arena's spot goes by what is then covered
pub returns : goal.returns
returns c = λ cmd reply.
    let s : State = c.args.market.now in
    let known : Known = c.args.known.now in
    let arena : ℕ = c.args.row.now.arena in
    let given : ℕ = c.args.given in
    let asked : ℕ = c.args.asked in
    let spot_by_covered : Covered → Spot =
    λ k. spot_told (place_told (exactly known.request given asked) (asked_ahead arena (at_level c.args.level s.arenas)) given asked) k known.request given asked c.args.drift in
    let before =
    c.portion_of_level-share.ensures.before
    ∙ ap (λ a. place_told (exactly known.request given asked) (asked_ahead a (at_level c.args.level s.arenas)) given asked) c.arena.ensures in
    let share = c.portion_of_level-share.ensures.share ∙ ap (λ a. unwrap_or (exactly known.request given asked) (allotment_of s a)) c.arena.ensures in
    let spot : c.told-known.result ≡ spot_by_covered c.settle_share.new.known.covered =
    c.told-known.ensures ∙ ap (λ b. spot_told b c.settle_share.new.known.covered known.request given asked c.args.drift) before in
    (λ i. (c.settle_share.new.row, record c.settle_share.new.known { spot = spot i }))
    ∙ ap (respotted spot_by_covered) (c.settle_share.ensures s cmd reply)
    ∙ (λ i. respotted spot_by_covered (closed_row c.args.place s cmd reply known c.args.row.now c.args.row.now (Some (share i))))
