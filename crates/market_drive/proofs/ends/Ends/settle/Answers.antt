use Rattle.std.proofs.Common.{◌≤◌, ◌∙◌, ℕ, sym, subst}
use Rattle.std.specs.List.{sum_by}
use Rattle.std.proofs.lemmas.List.{nil_from_length}
use Rattle.plan_jobs.specs.declared.task.Job.{Job}
use Rattle.market_drive.specs.Jobs.{taken_by}
use Rattle.market_drive.specs.Racks.{OfEnds}
use Rattle.market_drive.proofs.Sums.{settled_once}
use Rattle.market_drive.proofs.ends.Ends.settle.Goals as goal

pub returns : goal.returns
returns g c =
    let before = c.self.inside.feeders in
    let once : (weigh : Job → ℕ) → sum_by weigh (taken_by c.args.self.takers) ≤ sum_by weigh c.args.self.stored = λ weigh.
    subst (λ (v : OfEnds). sum_by weigh (taken_by v.takers) ≤ sum_by weigh v.stored) c.self.view_is
    (settled_once weigh c.push_reserved.new.self.items before.items c.self.inside.takers.items c.self.inside.feeder c.settle.result c.push_reserved.ensures.items
    (nil_from_length before.items (sym before.ok.0 ∙ c.self.invariant.0)) c.settle.ensures.once c.settle.ensures.left) in
    record { once = once }
