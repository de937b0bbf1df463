use Rattle.std.proofs.Common.{◌∙◌, [], ap, sym}
use Rattle.std.specs.List.{range_with_len}
use Rattle.std.proofs.lemmas.List.{same_from_push}
use Rattle.job_queue.specs.Seen.{OfFeeder, fresh_feeder}
use Rattle.plan_jobs.specs.declared.task.Job.{Job}
use Rattle.market_drive.specs.Jobs.{taken_by}
use Rattle.market_drive.proofs.Sums.{fresh_took}
use Rattle.market_drive.proofs.ends.open_queue.Goals as goal

pub returns-clause-unused : goal.returns-clause-unused
returns-clause-unused c =
    let new = c.in_ok-queue.ensures in
    let id = c.in_ok-queue.queue.id in
    let last = (same_from_push c.pop.new.self.items [] c.in-Some.feeder (fresh_feeder id 0) (sym c.in-Some.ensures.items ∙ new.feeders)).1 in (
      (ap (λ (f : OfFeeder Job). f.queue.feeders) last ∙ new.queue.1, ap (λ (f : OfFeeder Job). f.stored) last),
      ap taken_by new.takers ∙ fresh_took id (range_with_len 1 c.args.workers),
    )
