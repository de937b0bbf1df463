use Rattle.std.proofs.Common.{rules, ◌∙◌, sym, ◌++◌, ◌∷◌, [], Some}
use Rattle.std.proofs.lemmas.List.{same_from_push}
use Rattle.std.proofs.lemmas.List.Elements.{All-pop, All-push}
use Rattle.market_drive.specs.Racks.{IsFor}
use Rattle.market_drive.proofs.Sums.{taker_comes}
use Rattle.market_drive.proofs.racks.Racks.collect.Goals as goal

pub put-requires-clause-own : goal.put-requires-clause-own
put-requires-clause-own c =
    let i = c.loop-rack.invariant in
    let queues = c.requires.last.0 in
    let of = All-pop (IsFor (queues ++ c.args.ends.queue ∷ [])) c.loop-rack.left.items c.pop.new.self.items (Some c.in-Some.rack) c.in-Some.ensures.items (i.7 queues c.requires.last.1).0 in
    (same_from_push c.without-rack.result.0.queues queues c.without-rack.result.1.queue c.args.ends.queue (sym c.without-rack.ensures.queues ∙ of.1)).1 ∙ sym i.0

pub loop-rack-preserved : goal.loop-rack-preserved
loop-rack-preserved c =
    let i = c.loop-rack.invariant in (
      search rules,
      search rules,
      search rules,
      search rules,
      search rules,
      search rules,
      search rules,
      λ queues a.
          let j = i.7 queues a in
          let of = All-pop (IsFor (queues ++ c.args.ends.queue ∷ [])) c.loop-rack.left.items c.pop.new.self.items (Some c.in-Some.rack) c.in-Some.ensures.items j.0 in
          (of.0, rw c.push_reserved.ensures.items (All-push (IsFor queues) c.loop-rack.done.items c.without-rack.result.0 j.1 (same_from_push c.without-rack.result.0.queues queues c.without-rack.result.1.queue c.args.ends.queue (sym c.without-rack.ensures.queues ∙ of.1)).0)),
      λ weigh. rw c.push_reserved.ensures.items (taker_comes weigh c.loop-rack.left.items c.pop.new.self.items c.loop-rack.done.items c.in-Some.rack c.without-rack.result.0 c.put.new.self.takers c.loop-rack.ends.takers c.without-rack.result.1 c.without-rack.ensures.takers c.put.ensures.takers c.in-Some.ensures.items ∙ i.8 weigh),
      search rules,
    )
