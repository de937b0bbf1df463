use Rattle.std.proofs.Common.{◌≡◌, ◌∙◌, ℕ, IfSome, List, ap, arith, length, sym, subst}
use Rattle.std.proofs.lemmas.List.Sorted.{All-permutation}
use Rattle.market_types.specs.declared.command.Cmd.{Cmd}
use Rattle.market_lock.specs.declared.office.Closed.{Closed}
use Rattle.market_drive.specs.Causes.{AreEnds, AreTurnsIn, CanEndIn, IsOpenedBy, WasLetThrough, terms_of_plan}
use Rattle.market_drive.specs.Driving.{IsOfficeOf}
use Rattle.market_drive.specs.Jobs.{HaveRequestsOf}
use Rattle.market_drive.specs.Making.{commands_of}
use Rattle.market_drive.specs.Opening.{AreStill}
use Rattle.market_drive.specs.declared.fault.DriveFault.TheVariants.{Memory}
use Rattle.market_drive.proofs.Endings.{drive_cause, idle_opened, no_arena, not_torn}
use Rattle.market_drive.proofs.Once.{ending}
use Rattle.market_drive.proofs.Openings.{still_commands}
use Rattle.market_drive.proofs.driving.drive_plan_of.Goals as goal

pub returns-clause-ending : goal.returns-clause-ending
returns-clause-ending g c =
    let shifts = c.work_shifts-racks in
    ending c.args.plan.now shifts.result.reports c.in-Err.fault c.in-Err.ensures.late (λ torn. let is = c.in-Err.ensures.torn torn in (let e : c.in-Err.fault ≡ Memory = cc in e)) c.in-Err.ensures.fault
    (λ whole weigh.
    let shown = shifts.ensures.shown whole weigh in
    let once = c.settle.ensures.once weigh in
    let fed = c.in-Ok-line_up.ensures.all weigh in
    omega arith)

pub work_shifts-racks-requires-clause-ends : goal.work_shifts-racks-requires-clause-ends
work_shifts-racks-requires-clause-ends g c κs within e can =
    no_arena c.args.plan.now (g.G.Gate.refused c.args.gate.now) c.stations-stations.result.now e c.stations-stations.ensures.numbered
    (subst (HaveRequestsOf c.args.plan.now.arenas) (sym c.stations-stations.ensures.exact) c.in-Ok-line_up.ensures.requests) can

pub work_shifts-racks-requires-clause-turns : goal.work_shifts-racks-requires-clause-turns
work_shifts-racks-requires-clause-turns g c κs within seat calls are =
    let stations = c.stations-stations in
    (stations.result.now, stations.ensures.numbered, subst (HaveRequestsOf c.args.plan.now.arenas) (sym stations.ensures.exact) c.in-Ok-line_up.ensures.requests, are)

pub work_shifts-racks-requires-clause-still : goal.work_shifts-racks-requires-clause-still
work_shifts-racks-requires-clause-still g c κs within = subst AreStill (sym (c.deref.ensures.value ∙ c.in-Ok.ensures.exact)) (still_commands c.args.plan.now)

pub returns-clause-cause : goal.returns-clause-cause
returns-clause-cause g c =
    let shifts = c.work_shifts-racks in
    let plan = c.args.plan.now in
    let refused = g.G.Gate.refused c.args.gate.now in
    let closed = c.in-Some.closed in
    let each = c.in-Ok-line_up.ensures.each in
    let many : ℕ = length c.in-Ok-line_up.racks in
    drive_cause refused plan c.args.workers closed shifts.result.reports c.in-Err.fault
    (subst (λ (n : ℕ). IsOfficeOf plan n closed) each (subst (λ o. IfSome o (IsOfficeOf plan many)) c.in-Some.is shifts.ensures.office))
    (λ torn. let is = c.in-Err.ensures.torn torn in (let e : c.in-Err.fault ≡ Memory = cc in e))
    c.in-Err.ensures.fault
    (λ whole.
    let given : c.deref.result.now ≡ commands_of plan = c.deref.ensures.value ∙ c.in-Ok.ensures.exact in
    subst (λ (l : List Cmd). AreEnds (CanEndIn plan refused) (AreTurnsIn plan) (terms_of_plan plan c.args.workers) l closed.chronicle.log c.args.workers shifts.result.reports.ended) given
    (subst (λ (n : ℕ). AreEnds (CanEndIn plan refused) (AreTurnsIn plan) (terms_of_plan plan n) c.deref.result.now closed.chronicle.log n shifts.result.reports.ended) each
    (subst (λ o. IfSome o (λ (x : Closed). AreEnds (CanEndIn plan refused) (AreTurnsIn plan) (terms_of_plan plan many) c.deref.result.now x.chronicle.log many shifts.result.reports.ended)) c.in-Some.is (shifts.ensures.ends whole))))

pub returns-in-Ok-gather-clause-opened : goal.returns-in-Ok-gather-clause-opened
returns-in-Ok-gather-clause-opened g c =
    let shifts = c.work_shifts-racks in
    let plan = c.args.plan.now in
    let refused = g.G.Gate.refused c.args.gate.now in
    let closed = c.in-Some.closed in
    let many : ℕ = length c.in-Ok-line_up.racks in
    let given : c.deref.result.now ≡ commands_of plan = c.deref.ensures.value ∙ c.in-Ok.ensures.exact in
    let whole = not_torn shifts.result.reports.torn (λ torn. let is = c.in-Ok-gather.ensures.torn torn in (let e : ⊥ = cc in e)) in
    subst (λ (l : List Cmd). IsOpenedBy l closed.chronicle.log) given
    (idle_opened (CanEndIn plan refused) (AreTurnsIn plan) (terms_of_plan plan many) c.deref.result.now closed.chronicle.log many shifts.result.reports.ended c.in-Ok-gather.ensures.ended
    (subst (λ o. IfSome o (λ (x : Closed). AreEnds (CanEndIn plan refused) (AreTurnsIn plan) (terms_of_plan plan many) c.deref.result.now x.chronicle.log many shifts.result.reports.ended)) c.in-Some.is (shifts.ensures.ends whole)))

pub returns-in-Ok-gather-clause-gate : goal.returns-in-Ok-gather-clause-gate
returns-in-Ok-gather-clause-gate g c =
    let shifts = c.work_shifts-racks in
    let whole = not_torn shifts.result.reports.torn (λ torn. let is = c.in-Ok-gather.ensures.torn torn in (let e : ⊥ = cc in e)) in
    All-permutation (WasLetThrough (g.G.Gate.passed c.args.gate.now) (g.G.Gate.told c.args.gate.now)) shifts.result.reports.done c.in-Ok-gather.done.items c.in-Ok-gather.ensures.same (shifts.ensures.answers whole)
