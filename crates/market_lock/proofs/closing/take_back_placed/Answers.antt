use Rattle.std.proofs.Common.{◌≡◌, ◌++◌, ◌∷◌, [], ap, sym, ◌∙◌, subst, All, Some}
use Rattle.std.proofs.lemmas.List.Elements.{All-push, All-pop}
use Rattle.market_lock.specs.Workers.{own_place}
use Rattle.market_lock.specs.Seen.{OfPlaced}
use Rattle.market_lock.specs.Held.{kept_of, taken_in, whos}
use Rattle.market_lock.proofs.Meeting.{takes_in, whos_last}
use Rattle.market_lock.proofs.closing.take_back_placed.Goals as goal

pub take_back-requires-clause-table : goal.take_back-requires-clause-table
take_back-requires-clause-table c =
    let i = c.loop-worker.invariant in
    let q : OfPlaced = record { who = c.worker.inside.ticket; arena = c.worker.inside.arena } in
    let items : c.loop-worker.left.items ≡ c.pop.new.self.items ++ q ∷ [] = c.in-Some.ensures.items ∙ ap (λ p. c.pop.new.self.items ++ p ∷ []) (sym c.worker.view_is) in
    (i.0 ∙ c.requires.table.0, c.requires.table.1, (All-pop (λ (p : OfPlaced). p.who.table ≡ c.args.table.now.shared.table_id) c.loop-worker.left.items c.pop.new.self.items (Some q) items i.3).1)

pub loop-worker-preserved : goal.loop-worker-preserved
loop-worker-preserved c =
    let i = c.loop-worker.invariant in
    let q : OfPlaced = record { who = c.worker.inside.ticket; arena = c.worker.inside.arena } in
    let items : c.loop-worker.left.items ≡ c.pop.new.self.items ++ q ∷ [] = c.in-Some.ensures.items ∙ ap (λ p. c.pop.new.self.items ++ p ∷ []) (sym c.worker.view_is) in
    let who : whos c.loop-worker.left.items ≡ whos c.pop.new.self.items ++ q.who ∷ [] = ap whos items ∙ whos_last c.pop.new.self.items q in
    let s = takes_in c.args.table.now.shared.key (kept_of c.args.seat.now.me.0 ++ taken_in (whos c.args.placed.items)) c.loop-worker.seat.me c.take_back.new.seat.me (whos c.loop-worker.left.items) (whos c.pop.new.self.items) q.who
    c.take_back.ensures.seat who i.2 in
    let some : own_place q.who.mine ≡ Some q.arena = c.worker.invariant in (
      c.take_back.ensures.table ∙ i.0,
      s.closing,
      s.kept,
      (All-pop (λ (p : OfPlaced). p.who.table ≡ c.args.table.now.shared.table_id) c.loop-worker.left.items c.pop.new.self.items (Some q) items i.3).0,
      λ all. i.4 (subst (All (λ (p : OfPlaced). own_place p.who.mine ≡ Some p.arena)) (sym items) (All-push (λ (p : OfPlaced). own_place p.who.mine ≡ Some p.arena) c.pop.new.self.items q all some)),
    )
