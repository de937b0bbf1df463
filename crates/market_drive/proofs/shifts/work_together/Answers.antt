use Rattle.std.proofs.Common.{◌≡◌, ◌∙◌, ◌+◌, ◌++◌, ℕ, rules, ap, length, reverse, subst, vec_len}
use Rattle.office_crew.specs.Callers.{terms_of}
use Rattle.office_crew.specs.Works.{HaveWorked, HasFollowed}
use Rattle.market_drive.specs.Reports.{OfReports, ends_of}
use Rattle.market_drive.proofs.Endings.{OpenerLets, OpenerWorks, WorkerWorks, faults_of, meeting_ends}
use Rattle.market_drive.proofs.shifts.work_together.Goals as goal

pub returns-in-Ok-clause-ends : goal.returns-in-Ok-clause-ends
returns-in-Ok-clause-ends g c cmds own quiet whole =
    let m = c.in-Ok.meeting in
    let log = m.closed.chronicle.log in
    let xs = c.args.openers.items in
    let os = m.openers.items in
    let workers = c.args.workers.items in
    let ws = m.tasks.items in
    let many : ℕ = vec_len c.args.workers in
    let one = c.requires.few.0 in
    let told : c.relieve.new.reports.ended ≡ faults_of (reverse os) ++ ends_of ws =
    c.relieve.ensures.ends whole
    ∙ ap (λ l. l ++ ends_of ws) (c.hear.ensures.ends (c.relieve.ensures.whole whole) ∙ ap (λ (r : OfReports). r.ended ++ faults_of (reverse os)) c.requires.untold) in
    let alone : length os ≡ 1 = search rules in
    let all : length ws ≡ many = search rules in
    meeting_ends g.Y.Yard.ends g.Y.Yard.turns (terms_of c.args.terms (1 + many)) log many cmds xs os workers ws c.relieve.new.reports.ended quiet alone all own c.requires.fresh.0 c.requires.fresh.1
    (subst (λ (n : ℕ). HaveWorked OpenerWorks (terms_of c.args.terms (n + many)) log 0 xs os) one c.in-Ok.ensures.opened)
    (subst (λ (n : ℕ). HasFollowed OpenerLets os (HaveWorked (WorkerWorks g.Y.Yard.ends g.Y.Yard.turns) (terms_of c.args.terms (n + many)) log n workers ws) (ws ≡ workers)) one c.in-Ok.ensures.worked)
    told
