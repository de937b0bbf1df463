use Rattle.std.proofs.Common.{rules, ◌≡◌, ◌<◌, None}
use Rattle.std.proofs.lemmas.Result.{err_from_is_err_and}
use Rattle.market_bench.specs.Turns.{after_round, after_rounds}
use Rattle.market_bench.specs.declared.fault.BenchFault.TheVariants.{Refused}
use Rattle.market_bench.proofs.Repeated.{ends_all}
use Rattle.market_bench.proofs.measure.time_turn.Goals as goal

pub returns-in_err-time-clause-refused : goal.returns-in_err-time-clause-refused
returns-in_err-time-clause-refused g c =
    let fault = c.in_err-time.field-0.0 in
    let round : fault ≡ Refused → after_round c.args.scenario c.args.stage.now.arenas c.loop-time.stage.market ≡ None =
    rw (c.loop-time.invariant.arenas) at c.in_err-time.ensures.refused in
    let within : c.loop-time.time-index < 5 = search rules in
    let rounds : fault ≡ Refused → after_rounds c.args.scenario c.args.stage.now.arenas c.args.stage.now.market 5 ≡ None =
    λ refused. ends_all (λ _. after_round c.args.scenario c.args.stage.now.arenas) c.args.stage.now.market c.loop-time.stage.market c.loop-time.time-index 5 c.loop-time.invariant.rounds within (round refused) in
    let told = err_from_is_err_and c.from_residual.result c.from_residual.ensures.1 in
    rw (told.1, told.2) rounds
