use Rattle.std.proofs.Common.{◌≡◌, None, ◌∙◌, arith}
use Rattle.std.proofs.lemmas.Grind.{common_steps}
use Rattle.std.specs.Prelude.{slice_index_or}
use Rattle.allotment.specs.Levels.{first_some}
use Rattle.allotment.proofs.Levels.{pick-padded}
use Rattle.allotment.proofs.level.mandatory_pick.Goals as goal

pub returns-then-is_some-clause-in_market : goal.returns-then-is_some-clause-in_market
returns-then-is_some-clause-in_market c = λ s padded.
    let first : slice_index_or c.args.picks.now c.loop-pick.pick-index c.pick-item.result ≡ first_some c.args.picks.now = grind (arith, common_steps) in
    first ∙ pick-padded s c.args.picks.now padded

pub returns-clause-in_market : goal.returns-clause-in_market
returns-clause-in_market c = λ s padded.
    let none : None ≡ first_some c.args.picks.now = grind (arith, common_steps) in
    none ∙ pick-padded s c.args.picks.now padded
