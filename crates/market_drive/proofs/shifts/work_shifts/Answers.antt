use Rattle.std.proofs.Common.{ℕ, IfSome, length, subst}
use Rattle.edit_history.specs.declared.terms.Terms.{Terms}
use Rattle.market_lock.specs.declared.office.Closed.{Closed}
use Rattle.market_drive.specs.Causes.{AreEnds}
use Rattle.market_drive.proofs.Endings.{terms_are, terms_with}
use Rattle.market_drive.proofs.Sums.{unused_all}
use Rattle.market_drive.proofs.shifts.work_shifts.Goals as goal

pub man-requires-clause-unused : goal.man-requires-clause-unused
man-requires-clause-unused g c = unused_all c.args.racks c.requires.unused

pub returns-clause-ends : goal.returns-clause-ends
returns-clause-ends g c whole =
    let t = c.work_together-racks in
    let n : ℕ = length c.args.racks in
    subst (λ (terms : Terms). IfSome t.result.1 (λ (closed : Closed). AreEnds g.Y.Yard.ends g.Y.Yard.turns terms c.args.cmds.now closed.chronicle.log n t.new.reports.ended))
    (terms_are c.args.plan.now c.base.result c.hard.result c.levels.result n c.base.ensures.exact c.hard.ensures.exact c.levels.ensures.exact)
    (subst (λ (k : ℕ). IfSome t.result.1 (λ (closed : Closed). AreEnds g.Y.Yard.ends g.Y.Yard.turns (terms_with c.base.result c.hard.result c.levels.result k) c.args.cmds.now closed.chronicle.log k t.new.reports.ended)) c.man.ensures.each (t.ensures.ends c.args.cmds.now c.in-Ok.ensures.cmds c.requires.still whole))
