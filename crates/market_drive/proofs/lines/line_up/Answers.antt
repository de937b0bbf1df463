use Rattle.std.proofs.Common.{rules, refl, get_or, ◌≡◌, ◌≤◌, ◌+◌, ◌∙◌, ap, sym, subst, arith, List, All, length, max}
use Rattle.std.proofs.lemmas.List.Sums.{count_by-le-length}
use Rattle.drive_plan.specs.declared.plan.PlannedArena.{PlannedArena}
use Rattle.plan_jobs.specs.declared.task.PlannedJob.{PlannedJob}
use Rattle.market_drive.specs.Arenas.{count_of}
use Rattle.std.proofs.lemmas.List.Elements.{All-push}
use Rattle.job_queue.specs.Seen.{QueueId}
use Rattle.market_drive.specs.Racks.{AreAway, IsFor}
use Rattle.market_drive.specs.Lines.{queues_at}
use Rattle.std.specs.List.{sum_by}
use Rattle.market_drive.specs.Jobs.{IsUnfed}
use Rattle.market_drive.proofs.Fed.{fit_most, requests_more}
use Rattle.market_drive.proofs.Queues.{all_unfed, long_more, queues_more, roomy_more}
use Rattle.market_drive.proofs.lines.line_up.Goals as goal

pub loop-place-preserved : goal.loop-place-preserved
loop-place-preserved g c =
    let i = c.loop-place.invariant in
    let jobs = c.args.plan.now.jobs in
    let all = c.in-Ok-open_queue.ensures.all in
    let away = c.deal-dealt.ensures.away in
    let long : length c.with-lines.result.stations ≡ length c.loop-place.lines.stations + 1 = long_more c.with-lines.result.stations c.loop-place.lines.stations _ c.with-lines.ensures.stations in
    let long_so_far = i.0 in
    let kept = away.2 in
    let room = all.3 in
    let fits = c.in-Ok-open_queue.ensures.capacity ∙ c.max.ensures in
    let count = c.count_jobs-counts.ensures c.loop-place.place (omega arith) ∙ ap (λ (xs : List PlannedJob). count_of xs (c.loop-place.place + 1)) c.jobs-jobs.ensures.exact in (
      omega arith,
      c.deal-dealt.ensures.each ∙ i.1,
      subst (λ (queues : List QueueId). All (IsFor queues) c.deal-dealt.result.0) (queues_more c.with-lines.result.stations c.loop-place.lines.stations _ c.in-Ok-open_queue.ends.queue c.with-lines.ensures.stations c.in-Ok-open_queue.ensures.same)
          (c.deal-dealt.ensures.next (queues_at c.loop-place.lines.stations) i.2),
      c.deal-dealt.ensures.room,
      rw c.with-lines.ensures.ends (All-push (AreAway c.args.workers) c.loop-place.lines.ends c.deal-dealt.result.1 i.4 (ap (λ (x : QueueId). x.feeders) away.0 ∙ all.0, ap (λ (x : QueueId). x.takers) away.0 ∙ all.1, away.1, omega arith)),
      roomy_more jobs c.with-lines.result.stations c.loop-place.lines.stations _ c.with-lines.ensures.stations i.5 (fits ∙ ap (λ n. max n 1) (count ∙ ap (count_of jobs) (sym c.new-number.ensures))),
      requests_more c.args.plan.now.arenas c.loop-place.place c.index-arenas-place.result c.with-lines.result.stations c.loop-place.lines.stations _ (search rules)
          (c.index-arenas-place.is ∙ ap (λ xs. get_or xs c.loop-place.place c.index-arenas-place.result) c.arenas-arenas.ensures.exact) c.with-lines.ensures.stations refl refl i.6,
      rw c.with-lines.ensures.ends (All-push IsUnfed c.loop-place.lines.ends c.deal-dealt.result.1 i.7 (ap (λ (x : QueueId). x.feeders) away.0 ∙ all.0, away.3 ∙ c.in-Ok-open_queue.ensures.unused.0.1)),
      λ weigh.
          let same = c.deal-dealt.ensures.same weigh in
          let none = ap (sum_by weigh) c.in-Ok-open_queue.ensures.unused.1 in
          let before = i.8 weigh in
          omega arith,
    )

pub returns-clause-away : goal.returns-clause-away
returns-clause-away g c = all_unfed (AreAway c.args.workers) c.loop-place.lines.ends c.feed.result.ends c.feed.ensures.same.1 c.loop-place.invariant.4

pub count_jobs-counts-requires : goal.count_jobs-counts-requires
count_jobs-counts-requires g c =
    let few : length c.args.plan.now.arenas ≤ 64 = subst (λ (xs : List PlannedArena). length xs ≤ 64) c.arenas-arenas.ensures.exact c.arenas-arenas.ensures.few in
    record { fit = fit_most (length c.args.plan.now.arenas) c.jobs-jobs.result.now few c.jobs-jobs.ensures.fit }

pub open_queue-requires-clause-capacity : goal.open_queue-requires-clause-capacity
open_queue-requires-clause-capacity g c =
    let jobs = c.args.plan.now.jobs in
    let few : length jobs ≤ 65536 = subst (λ (xs : List PlannedJob). length xs ≤ 65536) c.jobs-jobs.ensures.exact c.jobs-jobs.ensures.few in
    let least : count_of jobs (c.loop-place.place + 1) ≤ length jobs = count_by-le-length _ jobs in
    let count = c.count_jobs-counts.ensures c.loop-place.place (omega arith) ∙ ap (λ (xs : List PlannedJob). count_of xs (c.loop-place.place + 1)) c.jobs-jobs.ensures.exact in
    let room = c.max.ensures in
    (omega arith, omega arith)
