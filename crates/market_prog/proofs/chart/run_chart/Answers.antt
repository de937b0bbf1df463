use Rattle.std.proofs.Common.{◌≤◌, ℕ, List, sym, subst, arith}
use Rattle.journal_chart.specs.Journals.{Charts}
use Rattle.market_prog.specs.Drawing.{Draws, columns_of}
use Rattle.market_prog.proofs.Drawn.{draws-legal, draws-nothing, few-moments}
use Rattle.market_prog.proofs.chart.run_chart.Goals as goal
use Rattle.market_prog.proofs.chart.run_chart.Goals.{in-Legal+in_ok-draw, in_default}

pub draw-requires-clause-countable : goal.draw-requires-clause-countable
draw-requires-clause-countable g c =
    let few : c.in_ok-found.chart.moments ≤ c.args.options.now.to =
    few-moments c.columns_of-columns.result c.deref.result.now c.args.options.now.from c.args.options.now.to c.in_ok-found.ensures.charts.text c.in_ok-found.chart
    (c.in_ok-found.ensures.charts.charted c.in-Legal.field-0 c.in-Legal.is) in
    omega (arith, few)

pub returns-clause-draws : goal.returns-clause-draws
returns-clause-draws g c =
    let o = c.args.options.now in
    let left = g.R.Source.left c.args.source.now in
    let left' = g.R.Source.left c.chart_source.new.source in
    let taken = g.W.Sink.taken c.args.sink.now in
    let found = c.in_ok-found.found in
    let chart = c.in_ok-found.chart in
    let charts : Charts (columns_of o) o.arenas.items o.from o.to left left' found chart =
    subst (λ (n : ℕ). Charts n o.arenas.items o.from o.to left left' found chart) c.columns_of-columns.ensures.exact
    (subst (λ (xs : List ℕ). Charts c.columns_of-columns.result xs o.from o.to left left' found chart) c.deref.ensures.value c.in_ok-found.ensures.charts) in
    elim c.match-found.branch [
      | in-Legal+in_ok-draw w ↦
          subst (λ sink. Draws o left left' taken (g.W.Sink.taken sink) found) (sym w.sink-is)
          (draws-legal o left left' taken (g.W.Sink.taken w.draw.new.sink) found w.in-Legal.field-0 chart w.in-Legal.is charts w.in_ok-draw.ensures.drawn)
      | in_default w ↦
          subst (λ sink. Draws o left left' taken (g.W.Sink.taken sink) found) (sym w.sink-is)
          (draws-nothing o left left' taken found chart (λ n legal. w.in_default.not-Legal n legal) charts)
    ]
