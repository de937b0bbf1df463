use Rattle.std.proofs.Common.{◌≡◌, ◌++◌, ◌∷◌, [], ap, sym, ◌∙◌, subst, All, None, Some}
use Rattle.std.proofs.lemmas.List.Elements.{All-push, All-pop}
use Rattle.market_lock.specs.Workers.{own_place}
use Rattle.market_lock.specs.Seen.{OfPass}
use Rattle.market_lock.specs.Held.{kept_of, taken_in}
use Rattle.market_lock.proofs.Meeting.{takes_in}
use Rattle.market_lock.proofs.closing.take_back_passes.Goals as goal

pub loop-pass-preserved : goal.loop-pass-preserved
loop-pass-preserved c =
    let i = c.loop-pass.invariant in
    let x : OfPass = c.pass.inside.ticket in
    let items : c.loop-pass.left.items ≡ c.pop.new.self.items ++ x ∷ [] = c.in-Some.ensures.items ∙ ap (λ p. c.pop.new.self.items ++ p ∷ []) (sym c.pass.view_is) in
    let s = takes_in c.args.table.now.shared.key (kept_of c.args.seat.now.me.0 ++ taken_in c.args.passes.items) c.loop-pass.seat.me c.take_back.new.seat.me c.loop-pass.left.items c.pop.new.self.items x
    c.take_back.ensures.seat items i.2 in
    let none : own_place x.mine ≡ None = c.pass.invariant in (
      c.take_back.ensures.table ∙ i.0,
      s.closing,
      s.kept,
      (All-pop (λ (p : OfPass). p.table ≡ c.args.table.now.shared.table_id) c.loop-pass.left.items c.pop.new.self.items (Some x) items i.3).0,
      λ all. i.4 (subst (All (λ (p : OfPass). own_place p.mine ≡ None)) (sym items) (All-push (λ (p : OfPass). own_place p.mine ≡ None) c.pop.new.self.items x all none)),
    )
