use Rattle.std.proofs.Common.{rules, ap, sym, ◌∙◌, ◌≡◌, ◌+◌, ◌++◌, ◌∷◌, [], List, arith}
use Rattle.atomic_table.specs.Seated.{TableId}
use Rattle.std.proofs.lemmas.List.FromFn.{map-range_with_len_more}
use Rattle.job_queue.specs.Seen.{queue_id, fresh_feeder, OfFeeder}
use Rattle.job_queue.proofs.dealing.deal_feeders.Goals as goal

pub loop-n-preserved : goal.loop-n-preserved
loop-n-preserved g c =
    let i = c.loop-n.invariant in
    let n = c.loop-n.n in
    let id = queue_id c.args.ring.now.table.shared.table_id c.args.feeders c.args.takers in
    let pushed = c.push_reserved.ensures in
    let d = c.deal-hand.ensures in
    let made : c.feeder.result ≡ fresh_feeder id n = c.feeder.ensures ∙ ap (λ (u : TableId). fresh_feeder (queue_id u c.args.feeders c.args.takers) n) d.queue.1.0 in (
      d.queue.0,
      d.view.0,
      search rules,
      search rules,
      ◌∙◌ {A = List (OfFeeder g.row.J.Denot)} pushed.items ((λ j. i.4 j ++ made j ∷ []) ∙ sym (map-range_with_len_more (fresh_feeder id) 0 n n (let e : 0 + n ≡ n = omega arith in e))),
    )

pub deal-hand-requires-clause-queue : goal.deal-hand-requires-clause-queue
deal-hand-requires-clause-queue g c = c.loop-n.invariant.0

pub feeder-requires : goal.feeder-requires
feeder-requires g c = (c.deal-hand.ensures.queue.1.1, c.deal-hand.ensures.view.1, omega arith)
