use Rattle.std.proofs.Common.{rules, ◌≡◌, ◌<◌, ◌≤◌, ◌-◌, length, None, ap, ◌∙◌, arith}
use Rattle.market_bench.specs.Stages.{with_joined, with_others}
use Rattle.market_bench.proofs.Stages.{stops_joins}
use Rattle.market_bench.proofs.stage.Stage.place_others.Goals as goal

pub returns-clause-joined : goal.returns-clause-joined
returns-clause-joined c =
    let seats : length c.args.self.now.market.seats ≡ 64 = c.args.self.now.seats in
    let low : 63 ≤ c.loop-other.other = c.loop-other-test.false in
    let high : c.loop-other.other ≤ 63 = c.loop-other.auto.other-end in
    let ended : length c.args.self.now.market.seats - 1 ≡ c.loop-other.other = rw (seats) (omega arith) in
    ap (λ seats. with_joined seats c.args.self.now.market) ended ∙ c.loop-other.invariant.market

pub returns-in_err-ask-clause-refused : goal.returns-in_err-ask-clause-refused
returns-in_err-ask-clause-refused c =
    let seats : length c.args.self.now.market.seats ≡ 64 = c.args.self.now.seats in
    let within : c.loop-other.other < length c.args.self.now.market.seats - 1 = rw (seats) c.loop-other-test.true in
    let none : with_others c.args.self.now.market ≡ None =
    stops_joins c.in_err-ask.field-0.0 c.args.self.now.market c.loop-other.self.market c.loop-other.other (length c.args.self.now.market.seats - 1) c.loop-other.invariant.market within c.in_err-ask.ensures.fault in
    search rules
