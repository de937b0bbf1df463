use Rattle.std.proofs.Common.{◌≡◌, length, ap, sym, ◌∙◌, arith}
use Rattle.market_types.specs.State.{State}
use Rattle.edit_history.specs.Chronicled.{market_of}
use Rattle.market_lock.proofs.Serving.{few-placed}
use Rattle.market_lock.proofs.desk.facts_of.Goals as goal

pub returns-clause-few_placed : goal.returns-clause-few_placed
returns-clause-few_placed c =
    let was = c.args.chronicle.now in
    let seats : length (market_of was).seats ≡ length was.start.seats = ap (λ (s : State). length s.seats) (sym c.market.ensures.exact) ∙ c.market.ensures.numbers.seats in
    omega (arith, few-placed (market_of was).seats, seats)
