use Rattle.std.proofs.Common.{rules, ◌≡◌, refl, ap, arith}
use Rattle.market_types.specs.declared.opening.Opening.{Opening}
use Rattle.market_lock.proofs.office.Office.open_unrecorded.Goals as goal

pub returns-clause-endless : goal.returns-clause-endless
returns-clause-endless c =
    let seats : c.from.result ≡ c.args.seats = search rules in
    let opened : c.new.result.seats ≡ c.args.seats = ap (λ (o : Opening). o.seats) c.new.ensures in
    c.on_terms.ensures.endless refl (omega (arith, seats, opened))
