use Rattle.std.proofs.Common.{◌<◌, arith, ap}
use Rattle.market_types.specs.declared.reply.LimitView.{LimitView}
use Rattle.market_types.specs.Allotment.{limit_of}
use Rattle.explainer.proofs.Divided.{assigned-within}
use Rattle.explainer.proofs.explanation.carry_step.Goals as goal

pub carry_share-rest-requires-clause-within_demand : goal.carry_share-rest-requires-clause-within_demand
carry_share-rest-requires-clause-within_demand c =
    let s = c.args.market.now in
    let some : 0 < limit_of s = omega (arith, ap (λ (v : LimitView). v.limit) c.limits.ensures.exact) in
    omega (arith, c.assigned-assigned.ensures.assigned some, assigned-within s c.args.level c.requires.low c.requires.high)
