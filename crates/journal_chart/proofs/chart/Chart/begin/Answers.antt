use Rattle.std.proofs.Common.{◌+◌, ap, ◌∙◌, arith}
use Rattle.std.proofs.lemmas.Grind.{common_steps}
use Rattle.journal_chart.specs.Numbers.{Charted}
use Rattle.journal_chart.specs.Steps.{begun_chart, begun_lines, first_rows}
use Rattle.journal_chart.proofs.Charts.{charted, place-more, room-more, width-more}
use Rattle.journal_chart.proofs.chart.Chart.begin.Goals as goal

pub begin-requires : goal.begin-requires
begin-requires c = grind (arith, common_steps)

pub invariant_of-self : goal.invariant_of-self
invariant_of-self c =
    (c.self.invariant.0, width-more c.self.inside.columns c.self.inside.moments c.self.inside.width c.make_room.new.width c.self.invariant.1 c.make_room.ensures.width)

pub returns-clause-chart : goal.returns-clause-chart
returns-clause-chart c =
    let s = c.args.market.now in
    let most = c.self.inside.columns in
    let n = c.self.inside.moments in
    let place = place-more most n c.self.inside.width c.make_room.new.width c.place_of-place.result c.self.invariant.1 c.make_room.ensures.width c.place_of-place.ensures.exact in
    let room = room-more most n c.self.inside.width c.self.inside.lines c.make_room.new.lines c.self.invariant.1 c.make_room.ensures.lines in
    (λ i. charted most (n + 1) (c.begin.ensures.lines i))
    ∙ (λ i. charted most (n + 1) (begun_lines (place i) s c.args.cmd.now c.args.reply.now c.args.known.now (room i)))
    ∙ ap (λ (d : Charted). (begun_chart s c.args.cmd.now c.args.reply.now (record { chart = d; known = c.args.known.now; shares = c.args.shares.now })).chart) c.self.view_is

pub returns-clause-known : goal.returns-clause-known
returns-clause-known c =
    let s = c.args.market.now in
    let most = c.self.inside.columns in
    let n = c.self.inside.moments in
    let place = place-more most n c.self.inside.width c.make_room.new.width c.place_of-place.result c.self.invariant.1 c.make_room.ensures.width c.place_of-place.ensures.exact in
    let room = room-more most n c.self.inside.width c.self.inside.lines c.make_room.new.lines c.self.invariant.1 c.make_room.ensures.lines in
    c.begin.ensures.known
    ∙ (λ i. (first_rows (place i) s c.args.cmd.now c.args.reply.now ((room i).rows) c.args.known.now).1)
    ∙ ap (λ (d : Charted). (begun_chart s c.args.cmd.now c.args.reply.now (record { chart = d; known = c.args.known.now; shares = c.args.shares.now })).known) c.self.view_is
