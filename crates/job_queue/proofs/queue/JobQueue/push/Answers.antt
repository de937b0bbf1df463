use Rattle.std.proofs.Common.{◌≡◌, ◌<◌, ◌∙◌, ap, length, sym, subst, []}
use Rattle.crossbeam_queue.specs.Fifo.{Pushes, Learns}
use Rattle.job_queue.specs.declared.view.Fed.{Fed}
use Rattle.job_queue.specs.declared.view.View.{View}
use Rattle.job_queue.specs.Jobs.{fed, Moment, IsMomentOf}
use Rattle.job_queue.specs.Seen.{QueueId, OfQueue, OfFeeder, HasStored, feeder_of}
use Rattle.job_queue.specs.Views.{known_of}
use Rattle.job_queue.specs.Rule.{Kept, Stored, Saw}
use Rattle.job_queue.proofs.Steps.{stores_it, learns_it}
use Rattle.job_queue.proofs.Full.{only_fills}
use Rattle.job_queue.proofs.queue.JobQueue.push.Goals as goal

pub push_as-requires-clause-rule : goal.push_as-requires-clause-rule
push_as-requires-clause-rule g c =
    let inv = c.feeder.invariant in
    let port = c.feeder.inside.hand.id in
    let room = c.self.inside.ring.cap in
    let k = known_of c.feeder.inside.hand.me.0.client in
    let x : Fed g.row.J.Denot = fed k.number (length k.stored) c.args.job in
    let y : Fed g.row.J.Denot = fed c.feeder.inside.number c.feeder.inside.stored c.args.job in
    let same : x ≡ y = λ i. fed (inv.5 i) (inv.6 i) c.args.job in
    subst (λ (z : View g.row.J.Denot × Fed g.row.J.Denot). Pushes Kept room port z.0 z.1 (Stored z.0 z.1) × Learns Kept port z.0 (Saw z.0)) (λ i. (sym inv.0 i, same i))
    (stores_it room port k [] c.args.job inv.4, learns_it port k [])

pub returns-in-Err-clause-full : goal.returns-in-Err-clause-full
returns-in-Err-clause-full g c =
    let e = c.in-Err.ensures.rule.2 in
    let m : Moment g.row.J.Denot = record { pops = e.2.0; held = e.0 } in
    let Possible : OfFeeder g.row.J.Denot → Type 0 = λ f. IsMomentOf f.queue.feeders f.queue.takers m in
    (m, e.1 ∙ ap (λ (q : OfQueue). q.capacity) c.self.view_is, subst (HasStored m) c.feeder.view_is e.2.1, subst Possible c.feeder.view_is e.2.3)

pub returns-in-Err-clause-only : goal.returns-in-Err-clause-only
returns-in-Err-clause-only g c one =
    let Numbered : OfFeeder g.row.J.Denot → Type 0 = λ f. f.number < f.queue.feeders in
    only_fills c.args.self.now c.args.feeder.now (ap (λ (q : QueueId). q.feeders) c.requires.queue ∙ one) (subst Numbered c.feeder.view_is c.feeder.invariant.4) (returns-in-Err-clause-full g c)

pub returns-in-Err-clause-back : goal.returns-in-Err-clause-back
returns-in-Err-clause-back g c = c.into_job.ensures ∙ ap (λ (x : Fed g.row.J.Denot). x.job) c.in-Err.ensures.rule.0

pub returns-in-Err-clause-same : goal.returns-in-Err-clause-same
returns-in-Err-clause-same g c =
    let e = c.in-Err.ensures in
    let old = c.feeder.inside.hand in
    ◌∙◌ {b = feeder_of old.table_id (known_of old.me.0.client)} (λ i. feeder_of (e.queue.0 i) (known_of (e.rule.1 i))) c.feeder.view_is
