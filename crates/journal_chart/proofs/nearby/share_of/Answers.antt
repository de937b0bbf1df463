use Rattle.std.specs.Prelude.{slice_index}
use Rattle.std.proofs.Common.{◌≡◌, ◌-◌, ap, arith, refl, ◌∙◌}
use Rattle.std.proofs.lemmas.Bool.{ne_eqb}
use Rattle.journal_chart.specs.Shares.{Shared, shared_at}
use Rattle.journal_chart.proofs.Sharing.{shared-given}
use Rattle.journal_chart.proofs.nearby.share_of.Goals as goal

pub allotment_at-requires-clause-given : goal.allotment_at-requires-clause-given
allotment_at-requires-clause-given g c = λ high.
    let s = c.args.market.now in
    let shares : c.args.now.now ≡ shared_at s c.args.now.now.drift = c.requires.shares (rw (ne_eqb g.row.DIVIDED 0 c.if-this-ne0.true) refl) in
    c.given.ensures.exact ∙ ap (λ (n : Shared). slice_index n.given (c.args.level - 1)) shares ∙ shared-given s c.args.level (omega arith) (omega arith) high
