-- The passes of a new queue are all of its passes.
use Rattle.std.proofs.Common.{◌≡◌, List, map, length, refl, ap, sym, ◌∙◌, subst, All}
use Rattle.std.specs.List.{range_with_len}
use Rattle.std.proofs.lemmas.List.Elements.{All-map}
use Rattle.std.proofs.lemmas.List.FromFn.{length-map-range_with_len}
use Rattle.job_queue.specs.Seen.{QueueId, OfFeeder, OfTaker, fresh_feeder, fresh_taker, AreAllOf}

module _ {J : Type 0} where
  pub all_dealt : (id : QueueId) (fs : List (OfFeeder J)) (ts : List (OfTaker J)) → fs ≡ map (fresh_feeder id) (range_with_len 0 id.feeders) → ts ≡ map (fresh_taker id) (range_with_len id.feeders id.takers) → AreAllOf id fs ts
  all_dealt id fs ts e e' = (
    ap length e ∙ length-map-range_with_len (fresh_feeder {J = J} id) 0 id.feeders,
    ap length e' ∙ length-map-range_with_len (fresh_taker {J = J} id) id.feeders id.takers,
    subst (All (λ (f : OfFeeder J). f.queue ≡ id)) (sym e) (All-map (λ (f : OfFeeder J). f.queue ≡ id) (fresh_feeder id) (range_with_len 0 id.feeders) (λ k d lt. refl)),
    subst (All (λ (t : OfTaker J). t.queue ≡ id)) (sym e') (All-map (λ (t : OfTaker J). t.queue ≡ id) (fresh_taker id) (range_with_len id.feeders id.takers) (λ k d lt. refl)),
  )
