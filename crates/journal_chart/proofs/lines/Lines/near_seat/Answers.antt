use Rattle.std.proofs.Common.{◌≡◌, length, drop, ap, ◌∙◌, arith}
use Rattle.std.specs.Vec.{with_items}
use Rattle.journal_chart.specs.Numbers.{Drawn}
use Rattle.journal_chart.specs.Steps.{seat_rows}
use Rattle.journal_chart.proofs.AtRest.{still-at-rest}
use Rattle.journal_chart.proofs.Mapped.{written-over}
use Rattle.journal_chart.proofs.lines.Lines.near_seat.Goals as goal
use Rattle.journal_chart.proofs.lines.Lines.near_seat.Goals.{After-seat_rows}

-- all rows were written over
module _ (c : After-seat_rows) where
  pub whole : (with_items c.self.inside.rows c.seat_rows.new.rows).items ≡ c.seat_rows.new.rows
  whole = written-over c.seat_rows.new.rows c.self.inside.rows.items c.self.inside.rows.len (omega (arith, c.self.inside.rows.ok.0)) (omega (arith, c.seat_rows.auto.rows, ap length c.deref_mut.ensures.value))

pub renewed-self-inside-requires-clause-rest : goal.renewed-self-inside-requires-clause-rest
renewed-self-inside-requires-clause-rest c low =
    let at = (goal.at.renewed-self-inside-requires-clause-rest c).After-seat_rows in
    still-at-rest c.self.inside.resting c.self.inside.rows.items c.deref-2.result.now c.seat_rows.new.rows c.awake-count.result low c.awake-count.ensures.most c.self.invariant.0
    (c.seat_rows.ensures.rest ∙ ap (drop c.awake-count.result) c.deref_mut.ensures.value) (c.deref-2.ensures.value ∙ whole at)

pub returns-clause-lines : goal.returns-clause-lines
returns-clause-lines c =
    let at = (goal.at.returns-clause-lines c).After-seat_rows in
    let rows =
    whole at
    ∙ c.seat_rows.ensures.rows
    ∙ ap (λ rs. (seat_rows c.args.place c.args.market.now c.args.cmd.now c.args.reply.now c.args.shares.now rs c.args.known.now).0)
    (c.deref_mut.ensures.value ∙ ap (λ (d : Drawn). d.rows) c.self.view_is) in
    λ i. record { limit = (c.self.view_is i).limit; effective = (c.self.view_is i).effective; rows = rows i }
