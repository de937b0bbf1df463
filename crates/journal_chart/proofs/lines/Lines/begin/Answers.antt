use Rattle.std.proofs.Common.{◌≡◌, ◌≤◌, List, length, sym, ap, subst, ◌∙◌, arith}
use Rattle.std.specs.Prelude.{ℕ, Option}
use Rattle.std.specs.Vec.{with_items}
use Rattle.journal_chart.specs.Numbers.{Drawn}
use Rattle.journal_chart.specs.Resting.{AreLeft, AreResting}
use Rattle.journal_chart.specs.Rows.{Row}
use Rattle.journal_chart.specs.Steps.{first_rows, subject}
use Rattle.journal_chart.proofs.Mapped.{written-over}
use Rattle.journal_chart.proofs.lines.Lines.begin.Goals as goal

pub returns-clause-lines : goal.returns-clause-lines
returns-clause-lines c =
    let limited = c.self.view_is ∙ c.add_limits.ensures c.args.market.now c.limits-limits.ensures.exact in
    let whole : (with_items c.self.inside.rows c.first_rows.new.rows).items ≡ c.first_rows.new.rows =
    written-over c.first_rows.new.rows c.self.inside.rows.items c.self.inside.rows.len (omega (arith, c.self.inside.rows.ok.0)) (omega (arith, c.first_rows.auto.rows, ap length c.deref_mut.ensures.value)) in
    let rows = whole ∙ c.first_rows.ensures.rows ∙ ap (λ rs. (first_rows c.args.place c.args.market.now c.args.cmd.now c.args.reply.now rs c.args.known.now).0) (c.deref_mut.ensures.value ∙ ap (λ (d : Drawn). d.rows) limited) in
    λ i. record { limit = (limited i).limit; effective = (limited i).effective; rows = rows i }

pub awake-count-requires-clause-resting : goal.awake-count-requires-clause-resting
awake-count-requires-clause-resting c = subst (AreResting c.self.inside.resting) (sym c.deref.ensures.value) c.self.invariant.0

pub first_rows-requires-clause-each : goal.first_rows-requires-clause-each
first_rows-requires-clause-each c =
    let limited = c.self.view_is ∙ c.add_limits.ensures c.args.market.now c.limits-limits.ensures.exact in
    c.requires.each ∙ ap length (sym (c.deref_mut.ensures.value ∙ ap (λ (d : Drawn). d.rows) limited))

pub first_rows-requires-clause-left : goal.first_rows-requires-clause-left
first_rows-requires-clause-left c =
    let about = subst (λ (a : Option ℕ). AreLeft c.awake-count.result a c.deref.result.now) c.subject-about.ensures c.awake-count.ensures.left in
    subst (λ (rs : List Row). AreLeft c.awake-count.result (subject c.args.cmd.now c.args.reply.now) rs) (c.deref.ensures.value ∙ sym c.deref_mut.ensures.value) about

pub returns-clause-known : goal.returns-clause-known
returns-clause-known c =
    let limited = c.self.view_is ∙ c.add_limits.ensures c.args.market.now c.limits-limits.ensures.exact in
    let rows = c.deref_mut.ensures.value ∙ ap (λ (d : Drawn). d.rows) limited in
    c.first_rows.ensures.known ∙ ap (λ rs. (first_rows c.args.place c.args.market.now c.args.cmd.now c.args.reply.now rs c.args.known.now).1) rows

pub invariant_of-self : goal.invariant_of-self
invariant_of-self c = (
  subst (AreResting c.of-self-inside.result) c.deref-2.ensures.value c.of-self-inside.ensures.resting,
  subst (λ (rs : List Row). c.of-self-inside.result.before ≤ length rs) c.deref-2.ensures.value c.of-self-inside.ensures.within,
)
