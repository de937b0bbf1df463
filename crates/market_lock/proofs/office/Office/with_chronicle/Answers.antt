use Rattle.std.proofs.Common.{rules, ◌≡◌, [], ◌+◌, arith, ap, ◌∙◌}
use Rattle.std.proofs.lemmas.List.Elements.{All-push}
use Rattle.market_lock.specs.declared.view.View.TheVariants.{Opener}
use Rattle.market_lock.specs.Seen.{OfPass, fresh, office_of}
use Rattle.market_lock.proofs.Opened.{one-fresh}
use Rattle.market_lock.proofs.office.Office.with_chronicle.Goals as goal

pub loop-number-preserved : goal.loop-number-preserved
loop-number-preserved c =
    let i = c.loop-number.invariant in
    let pushed = c.push_reserved.ensures in
    let key = c.in-Ok-furnish.furnished.table.shared.key in
    let o = office_of c.in-Ok-furnish.furnished.table.shared.table_id key in
    let n = c.loop-number.number in
    let number : c.new.result ≡ n = c.new.ensures in
    let pass : c.deal.result ≡ fresh o n = c.deal.ensures.pass ∙ ap (fresh o) number in (
      c.deal.ensures.table ∙ i.0,
      c.deal.ensures.seat ∙ ap (λ k. (Opener key (k + 1), [])) number,
      omega (arith, i.2, pushed.len),
      pushed.capacity ∙ i.3,
      one-fresh o c.loop-number.passes.items c.push_reserved.new.self.items c.deal.result n pushed.items (search rules) pass i.4,
      rw pushed.items (All-push (λ (p : OfPass). p.table ≡ o.table) c.loop-number.passes.items c.deal.result i.5 (ap (λ (p : OfPass). p.table) pass)),
    )
