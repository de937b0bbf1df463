use Rattle.std.proofs.Common.{◌≡◌, None, Some, ◌∙◌, arith}
use Rattle.std.proofs.lemmas.Grind.{common_steps}
use Rattle.market_types.specs.Allotment.{first_demand}
use Rattle.allotment.proofs.Levels.{top_level-padded}
use Rattle.allotment.proofs.level.top_level.Goals as goal

pub returns-then-demands-i-gt0-clause-in_market : goal.returns-then-demands-i-gt0-clause-in_market
returns-then-demands-i-gt0-clause-in_market c = λ s padded.
    let first : Some c.from_index.result ≡ first_demand c.args.demands.now = grind (arith, common_steps) in
    first ∙ top_level-padded s c.args.demands.now padded

pub returns-clause-in_market : goal.returns-clause-in_market
returns-clause-in_market c = λ s padded.
    let none : None ≡ first_demand c.args.demands.now = grind (arith, common_steps) in
    none ∙ top_level-padded s c.args.demands.now padded
