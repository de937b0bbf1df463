use Rattle.std.proofs.Common.{rules, ◌≡◌, ◌==◌, List, true, false, length, ap, ◌∙◌, refl, arith}
use Rattle.std.proofs.lemmas.Grind.{common_steps}
use Rattle.journal_chart.specs.declared.row.Known.{Known}
use Rattle.journal_chart.specs.Steps.{begun_chart, goes_on}
use Rattle.journal_chart.proofs.Mapped.{written-over}
use Rattle.journal_chart.proofs.Still.{width-still}
use Rattle.journal_chart.proofs.chart.Chart.take_next.Goals as goal

pub invariant_of-self : goal.invariant_of-self
invariant_of-self c =
    let on : goes_on c.args.self.now ≡ true = search rules in
    (c.self.invariant.0, c.self.invariant.1 ∙ width-still c.self.inside.columns c.self.inside.moments c.self.invariant.0 (ap goes_on c.self.view_is ∙ on))

pub returns-else-self-eq0-clause-known : goal.returns-else-self-eq0-clause-known
returns-else-self-eq0-clause-known c =
    let chart = c.args.self.now in
    let notes = c.args.notes.now in
    let begun : goes_on chart ≡ false = search rules in
    let some : (chart.moments == 0) ≡ false = search rules in
    written-over c.begin.new.known notes.known.items notes.known.len (omega (arith, notes.known.ok.0)) (omega (arith, c.begin.auto.known, ap length c.as_mut_slice-known.ensures.value))
    ∙ c.begin.ensures.known
    ∙ ap (λ (ks : List Known). (begun_chart c.args.market.now c.args.cmd.now c.args.reply.now (record { chart = chart; known = ks; shares = notes.shares })).known) c.as_mut_slice-known.ensures.value
    ∙ rw (begun, some) refl

pub returns-then-self-eq0-clause-known : goal.returns-then-self-eq0-clause-known
returns-then-self-eq0-clause-known c =
    let chart = c.args.self.now in
    let notes = c.args.notes.now in
    let begun : goes_on chart ≡ false = search rules in
    let none : (chart.moments == 0) ≡ true = search rules in
    written-over c.look.new.known notes.known.items notes.known.len (omega (arith, notes.known.ok.0)) (omega (arith, c.look.auto.known, ap length c.as_mut_slice-known.ensures.value))
    ∙ c.look.ensures.known
    ∙ rw (begun, none) refl

pub returns-else-self-eq0-clause-shares : goal.returns-else-self-eq0-clause-shares
returns-else-self-eq0-clause-shares c =
    let chart = c.args.self.now in
    let begun : goes_on chart ≡ false = search rules in
    let some : (chart.moments == 0) ≡ false = search rules in
    c.begin.ensures.shares ∙ rw (begun, some) refl

pub returns-else-self-eq0-clause-chart : goal.returns-else-self-eq0-clause-chart
returns-else-self-eq0-clause-chart c =
    let chart = c.args.self.now in
    let notes = c.args.notes.now in
    let begun : goes_on chart ≡ false = search rules in
    let some : (chart.moments == 0) ≡ false = search rules in
    c.begin.ensures.chart
    ∙ ap (λ (ks : List Known). (begun_chart c.args.market.now c.args.cmd.now c.args.reply.now (record { chart = chart; known = ks; shares = notes.shares })).chart) c.as_mut_slice-known.ensures.value
    ∙ rw (begun, some) refl

pub returns-then-self-eq0-clause-each : goal.returns-then-self-eq0-clause-each
returns-then-self-eq0-clause-each c = grind (arith, common_steps)

pub returns-else-self-eq0-clause-each : goal.returns-else-self-eq0-clause-each
returns-else-self-eq0-clause-each c = grind (arith, common_steps)
