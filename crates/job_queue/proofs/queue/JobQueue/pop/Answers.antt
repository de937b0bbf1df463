use Rattle.std.proofs.Common.{All, ◌≡◌, ◌<◌, sym, ap, ◌∙◌, subst, []}
use Rattle.std.proofs.lemmas.List.Elements.{All-from_recursion}
use Rattle.job_queue.specs.declared.view.Fed.{Fed}
use Rattle.job_queue.specs.Jobs.{Moment, IsMomentOf}
use Rattle.job_queue.proofs.Gathered.{nothing}
use Rattle.crossbeam_queue.specs.Fifo.{Pops, Learns, Forks}
use Rattle.job_queue.specs.declared.view.View.{View}
use Rattle.job_queue.specs.Seen.{OfTaker, taker_of, taken_one, HasTaken}
use Rattle.job_queue.specs.Views.{known_of, missed, spent}
use Rattle.job_queue.specs.Rule.{Kept, Taken, Saw}
use Rattle.job_queue.proofs.Steps.{takes_it, learns_it, misses_it}
use Rattle.job_queue.proofs.queue.JobQueue.pop.Goals as goal

pub pop_as-requires-clause-rule : goal.pop_as-requires-clause-rule
pop_as-requires-clause-rule g c =
    let port = c.taker.inside.hand.id in
    let k = known_of c.taker.inside.hand.me.0.client in
    subst (λ (v : View g.row.J.Denot). Pops Kept port v (Taken v) × Learns Kept port v (Saw v)) (sym c.taker.invariant.0) (takes_it port k [] c.taker.invariant.3, learns_it port k [])

pub another-none-requires-clause-rule : goal.another-none-requires-clause-rule
another-none-requires-clause-rule g c =
    let port = c.pop_as.new.pass.id in
    let k = known_of c.taker.inside.hand.me.0.client in
    subst (λ (v : View g.row.J.Denot). Forks Kept port v (missed v) spent) (sym (c.in-None.ensures.rule.0 ∙ c.taker.invariant.0)) (misses_it port k [])

pub returns-in-None-clause-empty : goal.returns-in-None-clause-empty
returns-in-None-clause-empty g c =
    let e = c.in-None.ensures.rule.1 in
    let m : Moment g.row.J.Denot = record { pops = e.2.0; held = e.0 } in
    let Possible : OfTaker g.row.J.Denot → Type 0 = λ t. IsMomentOf t.queue.feeders t.queue.takers m in
    (m, nothing e.0 e.1, subst (HasTaken m) c.taker.view_is e.2.2, subst Possible c.taker.view_is e.2.3)

pub returns-in-Some-clause-taken : goal.returns-in-Some-clause-taken
returns-in-Some-clause-taken g c =
    let x = c.in-Some.fed in
    let e = c.in-Some.ensures in
    let old = c.taker.inside.hand in
    let Earlier : Fed g.row.J.Denot → Type 0 = λ y. y.feeder ≡ x.feeder → y.place < x.place in
    let before = All-from_recursion Earlier (known_of old.me.0.client).taken e.rule.1 in
    let same : taker_of old.table_id (known_of old.me.0.client) ≡ c.args.taker.now = c.taker.view_is in
    (x, sym c.into_job.ensures, ◌∙◌ {b = taken_one (taker_of old.table_id (known_of old.me.0.client)) x} (λ i. taker_of (e.queue.0 i) (known_of (e.rule.0 i))) (ap (λ (t : OfTaker g.row.J.Denot). taken_one t x) same), subst (λ (t : OfTaker g.row.J.Denot). All Earlier t.taken) same before)
