use Rattle.std.proofs.Common.{rules, ◌≡◌, ◌+◌, ◌%◌, None}
use Rattle.market_bench.specs.Stages.{with_arena, with_arenas}
use Rattle.market_bench.specs.declared.fault.TurnFault.TheVariants.{Refused}
use Rattle.market_bench.proofs.Stages.{stops_opens}
use Rattle.market_bench.proofs.stage.open_arenas.Goals as goal

pub returns-in_err-open_arena-clause-refused : goal.returns-in_err-open_arena-clause-refused
returns-in_err-open_arena-clause-refused c =
    let here : c.in_err-open_arena.field-0.0 ≡ Refused → with_arena (c.loop-place.place + 1) (c.loop-place.place % c.args.levels + 1) c.loop-place.market ≡ None = search rules in
    let all : c.in_err-open_arena.field-0.0 ≡ Refused → with_arenas c.args.levels c.args.arenas c.args.market.now ≡ None =
    λ refused. stops_opens c.args.levels c.args.market.now c.loop-place.market c.loop-place.place c.args.arenas c.loop-place.invariant.market c.loop-place-test.true (here refused) in
    search rules
