use Rattle.std.proofs.Common.{rules, ◌≡◌, List, subst}
use Rattle.std.specs.Prelude.{All}
use Rattle.market_lock.specs.Seen.{OfPass, Met}
use Rattle.market_seat.specs.Seated.{callers}
use Rattle.market_seat.proofs.seat.Seat.close.Goals as goal

pub returns-in-Ok-clause-passes : goal.returns-in-Ok-clause-passes
returns-in-Ok-clause-passes c =
    let is : c.push_reserved.new.self.items ≡ callers c.args.self = search rules in
    subst (λ (xs : List OfPass). All (Met c.close.result.chronicle.log) xs) is c.close.ensures.passes
