use Rattle.std.proofs.Common.{◌≡◌, ◌≤◌, List, length, map, sym, ap, subst, ◌∙◌, arith}
use Rattle.std.specs.Vec.{with_items}
use Rattle.journal_chart.specs.Numbers.{Drawn}
use Rattle.journal_chart.specs.Resting.{AreResting}
use Rattle.journal_chart.specs.Rows.{Row}
use Rattle.journal_chart.specs.Steps.{known_rows, taken_row}
use Rattle.journal_chart.proofs.Mapped.{written-over}
use Rattle.journal_chart.proofs.lines.Lines.look.Goals as goal

pub returns-clause-lines : goal.returns-clause-lines
returns-clause-lines c =
    let limited = c.self.view_is ∙ c.add_limits.ensures c.args.market.now c.limits-limits.ensures.exact in
    let whole : (with_items c.self.inside.rows c.look_rows.new.rows).items ≡ c.look_rows.new.rows =
    written-over c.look_rows.new.rows c.self.inside.rows.items c.self.inside.rows.len (omega (arith, c.self.inside.rows.ok.0)) (omega (arith, c.look_rows.auto.rows, ap length c.deref_mut.ensures.value)) in
    let rows = whole ∙ c.look_rows.ensures.rows ∙ ap (map (taken_row c.args.place c.args.market.now c.args.cmd.now c.args.reply.now)) (c.deref_mut.ensures.value ∙ ap (λ (d : Drawn). d.rows) limited) in
    λ i. record { limit = (limited i).limit; effective = (limited i).effective; rows = rows i }

pub look_rows-requires : goal.look_rows-requires
look_rows-requires c =
    let limited = c.self.view_is ∙ c.add_limits.ensures c.args.market.now c.limits-limits.ensures.exact in
    let rows = c.deref_mut.ensures.value ∙ ap (λ (d : Drawn). d.rows) limited in
    record { each = c.requires.each ∙ ap length (sym rows) }

pub returns-clause-known : goal.returns-clause-known
returns-clause-known c =
    let limited = c.self.view_is ∙ c.add_limits.ensures c.args.market.now c.limits-limits.ensures.exact in
    let rows = c.deref_mut.ensures.value ∙ ap (λ (d : Drawn). d.rows) limited in
    c.look_rows.ensures.known ∙ ap (known_rows c.args.place c.args.market.now c.args.cmd.now c.args.reply.now) rows

pub invariant_of-self : goal.invariant_of-self
invariant_of-self c = (
  subst (AreResting c.of-self-inside.result) c.deref.ensures.value c.of-self-inside.ensures.resting,
  subst (λ (rs : List Row). c.of-self-inside.result.before ≤ length rs) c.deref.ensures.value c.of-self-inside.ensures.within,
)
