use Rattle.std.specs.Prelude.{slice_index}
use Rattle.std.proofs.Common.{◌-◌, ap, arith, ◌∙◌}
use Rattle.journal_chart.specs.Shares.{Shared}
use Rattle.journal_chart.proofs.Sharing.{shared-asked, shared-given}
use Rattle.journal_chart.proofs.nearby.portion_of.Goals as goal

-- what the level is given, and what it asks for, is what the market gives it
pub portion_of_level-requires-clause-given : goal.portion_of_level-requires-clause-given
portion_of_level-requires-clause-given g c = λ high.
    c.given.ensures.exact ∙ ap (λ (n : Shared). slice_index n.given (c.args.level - 1)) c.requires.shares
    ∙ shared-given c.args.market.now c.args.level (omega arith) (omega arith) high

pub portion_of_level-requires-clause-asked : goal.portion_of_level-requires-clause-asked
portion_of_level-requires-clause-asked g c = λ high.
    c.asked.ensures.exact ∙ ap (λ (n : Shared). slice_index n.asked (c.args.level - 1)) c.requires.shares
    ∙ shared-asked c.args.market.now c.args.level (omega arith) (omega arith) high
