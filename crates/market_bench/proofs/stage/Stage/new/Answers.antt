use Rattle.std.proofs.Common.{rules, ◌≡◌, None}
use Rattle.market_bench.specs.Faults.{told_as}
use Rattle.market_bench.specs.Stages.{filled}
use Rattle.market_bench.specs.declared.fault.BenchFault.TheVariants as bench
use Rattle.market_bench.specs.declared.fault.TurnFault.TheVariants.{Refused}
use Rattle.market_bench.proofs.Faults.{told_refused}
use Rattle.market_bench.proofs.stage.Stage.new.Goals as goal

pub returns-in_err-open_arenas-clause-refused : goal.returns-in_err-open_arenas-clause-refused
returns-in_err-open_arenas-clause-refused c =
    let turn = c.in_err-open_arenas.field-0.0 in
    let here : turn ≡ Refused → filled c.args.base c.args.levels c.args.arenas ≡ None =
    rw (c.in-Ok.ensures.opened) at c.in_err-open_arenas.ensures.refused in
    let all : told_as turn ≡ bench.Refused → filled c.args.base c.args.levels c.args.arenas ≡ None =
    λ told. here (told_refused turn told) in
    search rules
