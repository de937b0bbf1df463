use Rattle.std.proofs.Common.{◌≡◌, ◌<◌, ap, sym, ◌∙◌, subst, All}
use Rattle.std.specs.Prelude.{Some}
use Rattle.std.proofs.lemmas.List.Elements.{All-pop, All-push}
use Rattle.crossbeam_queue.specs.Passes.{view}
use Rattle.job_queue.specs.Views.{known_of}
use Rattle.job_queue.specs.Seen.{OfFeeder}
use Rattle.job_queue.specs.Records.{feeder_known}
use Rattle.job_queue.proofs.Gathered.{all_in, is_feeder, is_records}
use Rattle.job_queue.proofs.settling.absorb_all.Goals as goal

pub returns-clause-view : goal.returns-clause-view
returns-clause-view g c =
    let k = known_of c.last.inside.hand.me.0.client in
    let inv = c.last.invariant in
    let same : feeder_known c.in-Some.last ≡ k = ap feeder_known (sym c.last.view_is) ∙ is_feeder c.last.inside.hand.table_id k inv.2 inv.3 in
    all_in c.args.feeders.items c.pop.new.self.items c.args.takers.items c.in-Some.last k (view c.last.inside.hand) (view c.absorb_feeders.new.hand) (view c.absorb_takers.new.hand)
    c.in-Some.ensures.items same inv.0 c.absorb_feeders.ensures.view c.absorb_takers.ensures.view

pub returns-clause-below : goal.returns-clause-below
returns-clause-below g c =
    let P : OfFeeder g.row.J.Denot → Type 0 = λ f. f.number < f.queue.feeders in
    subst (All P) (sym c.in-Some.ensures.items) (All-push P c.pop.new.self.items c.in-Some.last c.absorb_feeders.ensures.numbers (subst P c.last.view_is c.last.invariant.4))

pub absorb_takers-requires-clause-queue : goal.absorb_takers-requires-clause-queue
absorb_takers-requires-clause-queue g c = (c.absorb_feeders.ensures.queue, c.requires.takers)

pub absorb_takers-requires-clause-view : goal.absorb_takers-requires-clause-view
absorb_takers-requires-clause-view g c = is_records (view c.absorb_feeders.new.hand) _ c.absorb_feeders.ensures.view

pub returns-clause-queue : goal.returns-clause-queue
returns-clause-queue g c = c.absorb_takers.ensures.queue

pub returns-clause-above : goal.returns-clause-above
returns-clause-above g c = c.absorb_takers.ensures.numbers

pub absorb_feeders-requires-clause-queue : goal.absorb_feeders-requires-clause-queue
absorb_feeders-requires-clause-queue g c =
    let Here : OfFeeder g.row.J.Denot → Type 0 = λ f. f.queue.table ≡ c.args.ring.now.table.shared.table_id in
    let here = All-pop Here c.args.feeders.items c.pop.new.self.items (Some c.in-Some.last) c.in-Some.ensures.items c.requires.feeders in
    ((subst Here (sym c.last.view_is) here.1, c.last.invariant.1), here.0)

pub absorb_feeders-requires-clause-view : goal.absorb_feeders-requires-clause-view
absorb_feeders-requires-clause-view g c = is_records (view c.last.inside.hand) _ c.last.invariant.0
