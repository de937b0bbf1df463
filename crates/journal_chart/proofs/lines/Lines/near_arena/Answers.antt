use Rattle.std.proofs.Common.{◌≡◌, length, drop, ap, ◌∙◌, arith}
use Rattle.std.specs.Vec.{with_items}
use Rattle.market_types.specs.declared.reply.LimitView.{LimitView}
use Rattle.journal_chart.specs.Numbers.{Drawn}
use Rattle.journal_chart.specs.Steps.{changed, each_row}
use Rattle.journal_chart.proofs.AtRest.{still-at-rest}
use Rattle.journal_chart.proofs.Mapped.{written-over}
use Rattle.journal_chart.proofs.lines.Lines.near_arena.Goals as goal
use Rattle.journal_chart.proofs.lines.Lines.near_arena.Goals.{After-near_rows}

-- all rows were written over
module _ (c : After-near_rows) where
  pub whole : (with_items c.self.inside.rows c.near_rows.new.rows).items ≡ c.near_rows.new.rows
  whole = written-over c.near_rows.new.rows c.self.inside.rows.items c.self.inside.rows.len (omega (arith, c.self.inside.rows.ok.0)) (omega (arith, c.near_rows.auto.rows, ap length c.deref_mut.ensures.value))

pub renewed-self-inside-requires-clause-rest : goal.renewed-self-inside-requires-clause-rest
renewed-self-inside-requires-clause-rest c low =
    let at = (goal.at.renewed-self-inside-requires-clause-rest c).After-near_rows in
    still-at-rest c.self.inside.resting c.self.inside.rows.items c.deref-2.result.now c.near_rows.new.rows c.awake-count.result low c.awake-count.ensures.most c.self.invariant.0
    (c.near_rows.ensures.rest ∙ ap (drop c.awake-count.result) c.deref_mut.ensures.value) (c.deref-2.ensures.value ∙ whole at)

pub returns-clause-lines : goal.returns-clause-lines
returns-clause-lines c =
    let at = (goal.at.returns-clause-lines c).After-near_rows in
    let limited = c.self.view_is ∙ c.add_changed.ensures in
    let limits = c.limits-limits.ensures.exact in
    let limit =
    ap (λ (d : Drawn). d.limit) limited
    ∙ ap (λ (v : LimitView). changed c.args.place c.args.shares.now.limit v.limit c.args.self.now.limit) limits in
    let effective =
    ap (λ (d : Drawn). d.effective) limited
    ∙ ap (λ (v : LimitView). changed c.args.place c.args.shares.now.effective v.effective c.args.self.now.effective) limits in
    let rows =
    whole at
    ∙ c.near_rows.ensures.rows
    ∙ ap (λ rs. (each_row c.args.place c.args.market.now c.args.cmd.now c.args.reply.now c.args.shares.now rs c.args.known.now).0)
    (c.deref_mut.ensures.value ∙ ap (λ (d : Drawn). d.rows) limited) in
    λ i. record { limit = limit i; effective = effective i; rows = rows i }
