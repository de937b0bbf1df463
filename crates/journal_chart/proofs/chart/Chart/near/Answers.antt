use Rattle.std.proofs.Common.{◌≡◌, ◌+◌, ◌/◌, length, sym, ap, ◌∙◌, arith}
use Rattle.journal_chart.specs.Columns.{width_of}
use Rattle.journal_chart.specs.Numbers.{Charted}
use Rattle.journal_chart.specs.Steps.{goes_on, near_chart, near_lines, near_rows}
use Rattle.journal_chart.proofs.Charts.{charted}
use Rattle.journal_chart.proofs.Mapped.{written-over}
use Rattle.journal_chart.proofs.Still.{width-still}
use Rattle.journal_chart.proofs.chart.Chart.near.Goals as goal

pub invariant_of-self : goal.invariant_of-self
invariant_of-self c = (c.self.invariant.0, c.self.invariant.1 ∙ width-still c.self.inside.columns c.self.inside.moments c.self.invariant.0 (ap goes_on c.self.view_is ∙ c.requires.on))

pub returns-clause-chart : goal.returns-clause-chart
returns-clause-chart c =
    let s = c.args.market.now in
    let n = c.self.inside.moments in
    let width : c.self.inside.width ≡ width_of c.self.inside.columns (n + 1) =
    c.self.invariant.1 ∙ width-still c.self.inside.columns n c.self.invariant.0 (ap goes_on c.self.view_is ∙ c.requires.on) in
    let place : c.args.place ≡ n / c.self.inside.width =
    c.requires.place ∙ sym (ap (λ (d : Charted). d.moments / width_of d.most d.moments) c.self.view_is) ∙ ap (λ w. n / w) (sym c.self.invariant.1) in
    (λ i. charted c.self.inside.columns (n + 1) (c.near.ensures.lines i))
    ∙ (λ i. charted c.self.inside.columns (n + 1) (near_lines c.args.place s c.args.cmd.now c.args.reply.now c.args.notes.now.shares (c.as_mut_slice-known.ensures.value i) c.self.inside.lines))
    ∙ (λ i. charted c.self.inside.columns (n + 1) (near_lines (place i) s c.args.cmd.now c.args.reply.now c.args.notes.now.shares c.args.notes.now.known.items c.self.inside.lines))
    ∙ (λ i. charted c.self.inside.columns (n + 1) (near_lines (n / width i) s c.args.cmd.now c.args.reply.now c.args.notes.now.shares c.args.notes.now.known.items c.self.inside.lines))
    ∙ ap (λ (d : Charted). (near_chart s c.args.cmd.now c.args.reply.now (record { chart = d; known = c.args.notes.now.known.items; shares = c.args.notes.now.shares })).chart) c.self.view_is

pub returns-clause-known : goal.returns-clause-known
returns-clause-known c =
    let s = c.args.market.now in
    let n = c.self.inside.moments in
    let width : c.self.inside.width ≡ width_of c.self.inside.columns (n + 1) =
    c.self.invariant.1 ∙ width-still c.self.inside.columns n c.self.invariant.0 (ap goes_on c.self.view_is ∙ c.requires.on) in
    let place : c.args.place ≡ n / c.self.inside.width =
    c.requires.place ∙ sym (ap (λ (d : Charted). d.moments / width_of d.most d.moments) c.self.view_is) ∙ ap (λ w. n / w) (sym c.self.invariant.1) in
    written-over c.near.new.known c.args.notes.now.known.items c.args.notes.now.known.len (omega (arith, c.args.notes.now.known.ok.0)) (omega (arith, c.near.auto.known, ap length c.as_mut_slice-known.ensures.value))
    ∙ c.near.ensures.known
    ∙ (λ i. (near_rows c.args.place s c.args.cmd.now c.args.reply.now c.args.notes.now.shares c.self.inside.lines.rows (c.as_mut_slice-known.ensures.value i)).1)
    ∙ (λ i. (near_rows (place i) s c.args.cmd.now c.args.reply.now c.args.notes.now.shares c.self.inside.lines.rows c.args.notes.now.known.items).1)
    ∙ (λ i. (near_rows (n / width i) s c.args.cmd.now c.args.reply.now c.args.notes.now.shares c.self.inside.lines.rows c.args.notes.now.known.items).1)
    ∙ ap (λ (d : Charted). (near_chart s c.args.cmd.now c.args.reply.now (record { chart = d; known = c.args.notes.now.known.items; shares = c.args.notes.now.shares })).known) c.self.view_is
