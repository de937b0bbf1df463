use Rattle.std.specs.Prelude.{slice_index}
use Rattle.std.proofs.Common.{◌≡◌, ◌-◌, ap, arith, ◌∙◌}
use Rattle.journal_chart.specs.Shares.{Shared, shared_of}
use Rattle.journal_chart.proofs.Sharing.{shared-given}
use Rattle.journal_chart.proofs.nearby.share_among.Goals as goal

pub allotment_at-requires-clause-given : goal.allotment_at-requires-clause-given
allotment_at-requires-clause-given c = λ high.
    let s = c.args.market.now in
    let shares : c.args.now.now ≡ shared_of s = c.requires.shares in
    c.given.ensures.exact ∙ ap (λ (n : Shared). slice_index n.given (c.args.level - 1)) shares ∙ shared-given s c.args.level (omega arith) (omega arith) high
