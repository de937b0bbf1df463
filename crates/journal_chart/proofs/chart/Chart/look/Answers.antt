use Rattle.std.proofs.Common.{◌+◌, ◌/◌, ap, ◌∙◌, arith}
use Rattle.std.proofs.lemmas.Grind.{common_steps}
use Rattle.journal_chart.specs.Columns.{width_of}
use Rattle.journal_chart.specs.Numbers.{Charted}
use Rattle.journal_chart.specs.Steps.{known_rows, roomed_lines, taken_chart}
use Rattle.journal_chart.proofs.Charts.{chart-step, place-more, room-more, width-more}
use Rattle.journal_chart.proofs.chart.Chart.look.Goals as goal

pub look-requires : goal.look-requires
look-requires c = grind (arith, common_steps)

pub invariant_of-self : goal.invariant_of-self
invariant_of-self c =
    (c.self.invariant.0, width-more c.self.inside.columns c.self.inside.moments c.self.inside.width c.make_room.new.width c.self.invariant.1 c.make_room.ensures.width)

pub returns-clause-chart : goal.returns-clause-chart
returns-clause-chart c =
    chart-step c.self.inside.columns c.self.inside.moments c.self.inside.width c.make_room.new.width c.place_of-place.result
    c.self.inside.lines c.make_room.new.lines c.look.new.self c.args.market.now c.args.cmd.now c.args.reply.now
    c.self.invariant.1 c.make_room.ensures.width c.make_room.ensures.lines c.place_of-place.ensures.exact c.look.ensures.lines
    ∙ ap (taken_chart c.args.market.now c.args.cmd.now c.args.reply.now) c.self.view_is

pub returns-clause-known : goal.returns-clause-known
returns-clause-known c =
    let s = c.args.market.now in
    let most = c.self.inside.columns in
    let n = c.self.inside.moments in
    let place = place-more most n c.self.inside.width c.make_room.new.width c.place_of-place.result c.self.invariant.1 c.make_room.ensures.width c.place_of-place.ensures.exact in
    let room = room-more most n c.self.inside.width c.self.inside.lines c.make_room.new.lines c.self.invariant.1 c.make_room.ensures.lines in
    c.look.ensures.known
    ∙ (λ i. known_rows (place i) s c.args.cmd.now c.args.reply.now ((room i).rows))
    ∙ ap (λ (d : Charted). known_rows (d.moments / width_of d.most (d.moments + 1)) s c.args.cmd.now c.args.reply.now (roomed_lines d).rows) c.self.view_is
