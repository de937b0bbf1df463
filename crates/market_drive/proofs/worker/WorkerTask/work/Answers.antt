use Rattle.std.proofs.Common.{◌≡◌, ◌∙◌, [], IsSomeAnd, ap, sym, subst}
use Rattle.std.proofs.lemmas.Option.{none-some}
use Rattle.market_types.specs.History.{place_in}
use Rattle.market_lock.specs.Seen.{OfPass}
use Rattle.market_types.specs.declared.command.Cmd.TheVariants.{Leave}
use Rattle.market_types.specs.declared.reply.Reply.TheVariants.{Left}
use Rattle.office_crew.specs.Callers.{who_is}
use Rattle.market_drive.specs.Causes.{HasEndedSo}
use Rattle.market_drive.specs.Opening.{HasTakenTurns}
use Rattle.market_drive.proofs.Endings.{some_later}
use Rattle.market_drive.proofs.worker.WorkerTask.work.Goals as goal

pub returns-in-Free-clause-worked : goal.returns-in-Free-clause-worked
returns-in-Free-clause-worked g c new =
    let pass = sym (ap who_is c.in-Free.is) in (
      subst (λ p. IsSomeAnd c.work_with.new.self (λ ended. g.Y.Yard.ends ended × HasEndedSo p c.work_with.result ended)) pass c.work_with.ensures.ended,
      λ unseen. subst (λ p. IsSomeAnd c.work_with.new.self (HasTakenTurns g.Y.Yard.turns p c.work_with.result)) pass c.work_with.ensures.turns,
    )

pub returns-in-Working-clause-worked : goal.returns-in-Working-clause-worked
returns-in-Working-clause-worked g c new =
    let worked = c.work_with-in-Working in
    let placed = c.in-Working.placed in
    let caller = ap who_is c.in-Working.is in (
      subst (λ p. IsSomeAnd worked.new.self (λ ended. g.Y.Yard.ends ended × HasEndedSo p worked.result ended)) (sym caller)
          (some_later g.Y.Yard.ends worked.new.self placed.who c.leave-pass.result worked.result Leave (Left placed.arena) c.leave-pass.ensures.exact worked.ensures.ended),
      λ unseen.
          let seen : placed.who.seen ≡ [] = ap (λ (p : OfPass). p.seen) (sym caller) ∙ unseen in
          absurd (none-some placed.arena (ap (place_in placed.who.seat) (sym seen) ∙ c.arena.ensures.placed)),
    )
