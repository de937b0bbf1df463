use Rattle.std.proofs.Common.{rules, ◌∙◌, ◌++◌, ◌∷◌, [], ◌<◌, length, Some}
use Rattle.std.proofs.lemmas.List.Elements.{All-pop, All-push}
use Rattle.market_drive.specs.Racks.{IsFor, IsRoomy, OfRack}
use Rattle.market_drive.proofs.Sums.{taker_goes}
use Rattle.market_drive.proofs.racks.Racks.deal.Goals as goal

pub loop-rack-preserved : goal.loop-rack-preserved
loop-rack-preserved c =
    let i = c.loop-rack.invariant in
    let left = c.loop-rack.left.items in
    let after = c.pop.new.self.items in
    let rack = c.in-Some.rack in
    let items = c.in-Some.ensures.items in (
      search rules,
      search rules,
      search rules,
      search rules,
      search rules,
      search rules,
      search rules,
      (All-pop IsRoomy left after (Some rack) items i.7).0,
      (All-pop (λ (r : OfRack). length r.queues < 64) left after (Some rack) items i.8).0,
      rw c.push_reserved.ensures.items (All-push IsRoomy c.loop-rack.dealt.items c.with.result i.9 c.with.ensures.room),
      λ queues a.
          let j = i.10 queues a in
          let of = All-pop (IsFor queues) left after (Some rack) items j.0 in
          (of.0, rw c.push_reserved.ensures.items (All-push (IsFor (queues ++ c.args.ends.queue ∷ [])) c.loop-rack.dealt.items c.with.result j.1 (c.with.ensures.next ∙ (λ k. of.1 k ++ (c.take.ensures.taker ∙ i.0) k ∷ [])))),
      λ weigh. rw c.push_reserved.ensures.items (taker_goes weigh left after c.loop-rack.dealt.items c.with.result rack c.loop-rack.ends.takers c.take.new.self.takers c.take.result c.with.ensures.takers c.take.ensures.takers items ∙ i.11 weigh),
      search rules,
    )
