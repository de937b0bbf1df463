use Rattle.std.proofs.Common.{rules, ap, sym, ◌∙◌, ◌≡◌, ◌+◌, ◌++◌, ◌∷◌, [], List, refl, arith}
use Rattle.atomic_table.specs.Seated.{TableId}
use Rattle.std.proofs.lemmas.List.FromFn.{map-range_with_len_more}
use Rattle.job_queue.specs.Seen.{queue_id, fresh_taker, OfTaker}
use Rattle.job_queue.proofs.dealing.deal_takers.Goals as goal

pub loop-n-preserved : goal.loop-n-preserved
loop-n-preserved g c =
    let i = c.loop-n.invariant in
    let n = c.loop-n.n in
    let f = c.args.feeders in
    let id = queue_id c.args.ring.now.table.shared.table_id f c.args.takers in
    let pushed = c.push_reserved.ensures in
    let d = c.deal-hand.ensures in
    let made : c.taker.result ≡ fresh_taker id (f + n) = c.taker.ensures ∙ ap (λ (u : TableId). fresh_taker (queue_id u f c.args.takers) (f + n)) d.queue.1.0 in (
      d.queue.0,
      d.view.0 ∙ search rules,
      search rules,
      search rules,
      ◌∙◌ {A = List (OfTaker g.row.J.Denot)} pushed.items ((λ j. i.4 j ++ made j ∷ []) ∙ sym (map-range_with_len_more (fresh_taker id) f n (f + n) refl)),
    )

pub deal-hand-requires-clause-queue : goal.deal-hand-requires-clause-queue
deal-hand-requires-clause-queue g c = c.loop-n.invariant.0

pub taker-requires : goal.taker-requires
taker-requires g c = (c.deal-hand.ensures.queue.1.1, c.deal-hand.ensures.view.1, omega arith)
