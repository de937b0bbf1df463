use Rattle.std.proofs.Common.{◌≡◌, ◌∙◌, ◌≤◌, true, length, ap, arith, subst, sym}
use Rattle.std.specs.List.{All}
use Rattle.drive_plan.specs.Plans.{FitsJob}
use Rattle.market_drive.specs.Servable.{has_job}
use Rattle.market_drive.proofs.Jobs.{has_job-among}
use Rattle.market_drive.proofs.servable.unservable.Goals as goal

pub returns-then-branch-eq0-clause-least : goal.returns-then-branch-eq0-clause-least
returns-then-branch-eq0-clause-least c =
    record {
      unservable = (subst (λ jobs. has_job jobs c.new-arena.result ≡ true) c.jobs-jobs.ensures.exact (sym c.has_job.ensures ∙ c.if-has_job.true), sym c.in_ok-lone_allotment.ensures ∙ c.if-branch-eq0.true);
      least = λ b before u.
          let p = c.args.plan.now in
          let fit : All (FitsJob (length p.arenas)) p.jobs = subst (All (FitsJob (length p.arenas))) c.jobs-jobs.ensures.exact c.jobs-jobs.ensures.fit in
          c.loop-index.invariant b (has_job-among (length p.arenas) b p.jobs fit u.0).0 (omega (arith, before, c.new-arena.ensures)) u;
    }

pub returns-clause-none : goal.returns-clause-none
returns-clause-none c = λ a u.
    let p = c.args.plan.now in
    let fit : All (FitsJob (length p.arenas)) p.jobs = subst (All (FitsJob (length p.arenas))) c.jobs-jobs.ensures.exact c.jobs-jobs.ensures.fit in
    let many : length c.arenas-index-end.result.now ≡ length p.arenas = ap length c.arenas-index-end.ensures.exact in
    let there : (1 ≤ a) × (a ≤ length p.arenas) = has_job-among (length p.arenas) a p.jobs fit u.0 in
    c.loop-index.invariant a there.0 (omega (arith, there.1, many, c.loop-index-test.false)) u
