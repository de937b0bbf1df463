use Rattle.std.proofs.Common.{ap, sym, subst, ◌∙◌, ◌≡◌, ◌<◌, All}
use Rattle.std.specs.Prelude.{Some}
use Rattle.std.proofs.lemmas.List.Elements.{All-pop, All-push}
use Rattle.crossbeam_queue.specs.Passes.{view}
use Rattle.job_queue.specs.Views.{known_of}
use Rattle.job_queue.specs.Seen.{OfFeeder}
use Rattle.job_queue.specs.Records.{feeder_known}
use Rattle.job_queue.proofs.Gathered.{is_records, is_feeder, gathered}
use Rattle.job_queue.proofs.settling.absorb_feeders.Goals as goal

pub loop-feeder-preserved : goal.loop-feeder-preserved
loop-feeder-preserved g c =
    let i = c.loop-feeder.invariant in
    let p = c.in-Some.feeder in
    let inv = c.feeder.invariant in
    let k = known_of c.feeder.inside.hand.me.0.client in
    let P : OfFeeder g.row.J.Denot → Type 0 = λ f. f.number < f.queue.feeders in
    let same : feeder_known p ≡ k = ap feeder_known (sym c.feeder.view_is) ∙ is_feeder c.feeder.inside.hand.table_id k inv.2 inv.3 in
    let mine : P p = subst P c.feeder.view_is inv.4 in (
      c.absorb.ensures.queue,
      is_records (view c.absorb.new.hand) _ c.absorb.ensures.view,
      gathered feeder_known c.pop.new.self.items c.loop-feeder.left.items p k (view c.feeder.inside.hand) (view c.loop-feeder.hand) (view c.absorb.new.hand) _ c.in-Some.ensures.items same inv.0 c.absorb.ensures.view i.2,
      (All-pop (λ (f : OfFeeder g.row.J.Denot). f.queue.table ≡ c.args.ring.now.table.shared.table_id) c.loop-feeder.left.items c.pop.new.self.items (Some p) c.in-Some.ensures.items i.3).0,
      (λ all. i.4 (subst (All P) (sym c.in-Some.ensures.items) (All-push P c.pop.new.self.items p all mine))),
    )
