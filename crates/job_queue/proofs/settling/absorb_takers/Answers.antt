use Rattle.std.proofs.Common.{ap, sym, subst, ◌∙◌, ◌≡◌, ◌≤◌, All}
use Rattle.std.specs.Prelude.{Some}
use Rattle.std.proofs.lemmas.List.Elements.{All-pop, All-push}
use Rattle.crossbeam_queue.specs.Passes.{view}
use Rattle.job_queue.specs.Views.{known_of}
use Rattle.job_queue.specs.Seen.{OfTaker}
use Rattle.job_queue.specs.Records.{taker_known}
use Rattle.job_queue.proofs.Gathered.{is_records, is_taker, gathered}
use Rattle.job_queue.proofs.settling.absorb_takers.Goals as goal

pub loop-taker-preserved : goal.loop-taker-preserved
loop-taker-preserved g c =
    let i = c.loop-taker.invariant in
    let p = c.in-Some.taker in
    let inv = c.taker.invariant in
    let k = known_of c.taker.inside.hand.me.0.client in
    let P : OfTaker g.row.J.Denot → Type 0 = λ t. t.queue.feeders ≤ t.number in
    let same : taker_known p ≡ k = ap taker_known (sym c.taker.view_is) ∙ is_taker c.taker.inside.hand.table_id k inv.2 in
    let mine : P p = subst P c.taker.view_is inv.3 in (
      c.absorb.ensures.queue,
      is_records (view c.absorb.new.hand) _ c.absorb.ensures.view,
      gathered taker_known c.pop.new.self.items c.loop-taker.left.items p k (view c.taker.inside.hand) (view c.loop-taker.hand) (view c.absorb.new.hand) _ c.in-Some.ensures.items same inv.0 c.absorb.ensures.view i.2,
      (All-pop (λ (t : OfTaker g.row.J.Denot). t.queue.table ≡ c.args.ring.now.table.shared.table_id) c.loop-taker.left.items c.pop.new.self.items (Some p) c.in-Some.ensures.items i.3).0,
      (λ all. i.4 (subst (All P) (sym c.in-Some.ensures.items) (All-push P c.pop.new.self.items p all mine))),
    )
