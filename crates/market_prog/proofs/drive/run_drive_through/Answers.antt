use Rattle.std.proofs.Common.{refl}
use Rattle.std.proofs.lemmas.Result.{err_from_is_err_and}
use Rattle.market_prog.proofs.Runs.{cause-of, no-write}
use Rattle.market_prog.proofs.drive.run_drive_through.Goals as goal

pub returns-in_err-plan-clause-stops : goal.returns-in_err-plan-clause-stops
returns-in_err-plan-clause-stops g c =
    let p = err_from_is_err_and c.from_residual.result c.from_residual.ensures.1 in
    let h = c.in_err-plan.ensures.stops in
    rw (p.1, p.2, c.requires.sink_working) (record {
      plan = h.input;
      read = h.read;
      cause = cause-of (λ _. ⊥) c.in_err-plan.field-0.0 h.input _ _ h.cause;
      wrote = λ e. absurd (no-write _ _ _ c.in_err-plan.field-0.0 h e);
    })

pub returns-in_err-plan-clause-whole_before_write : goal.returns-in_err-plan-clause-whole_before_write
returns-in_err-plan-clause-whole_before_write g c =
    let p = err_from_is_err_and c.from_residual.result c.from_residual.ensures.1 in
    rw (p.1, p.2) (λ e. absurd (no-write _ _ _ c.in_err-plan.field-0.0 c.in_err-plan.ensures.stops e))

pub returns-in_err-plan-clause-untouched : goal.returns-in_err-plan-clause-untouched
returns-in_err-plan-clause-untouched g c =
    let p = err_from_is_err_and c.from_residual.result c.from_residual.ensures.1 in
    rw p.1 (λ _. refl)
