use Rattle.std.proofs.Common.{◌≡◌, ◌∙◌, ◌++◌, [], Some, ap, sym, subst, IsPermutation}
use Rattle.std.specs.Option.{IsSomeAnd}
use Rattle.worker_main.specs.Books.{results, kept_back}
use Rattle.market_drive.specs.Racks.{IsFor, OfRack}
use Rattle.market_drive.specs.Causes.{WasLetThrough}
use Rattle.market_drive.specs.Jobs.{HasShown, taken_by}
use Rattle.std.proofs.lemmas.List.Elements.{All-weaker}
use Rattle.market_drive.proofs.Queues.{takers_of, same_queues}
use Rattle.worker_main.proofs.Calls.{if_idle_then}
use Rattle.market_drive.proofs.worker.Worker.work_with.Goals as goal

pub work-pass-requires-clause-takers : goal.work-pass-requires-clause-takers
work-pass-requires-clause-takers g c =
    let own = subst (λ o. IsSomeAnd o (λ (r : OfRack). IsFor g.Y.Yard.queues r × HasShown r.takers c.self.inside.done.items c.self.inside.ended)) (sym c.in-Some.ensures.value) c.self.invariant.0 in
    takers_of c.self.inside.stations.now c.into_takers.result.items (c.into_takers.ensures.0 ∙ (own.0 ∙ sym c.self.invariant.1))

pub invariant_of-self : goal.invariant_of-self
invariant_of-self g c =
    let own = subst (λ o. IsSomeAnd o (λ (r : OfRack). IsFor g.Y.Yard.queues r × HasShown r.takers c.self.inside.done.items c.self.inside.ended)) (sym c.in-Some.ensures.value) c.self.invariant.0 in
    let report = c.work-pass.result in
    let back : IsFor g.Y.Yard.queues c.of.result = c.of.ensures.0 ∙ (same_queues c.into_takers.result.items report.takers.items c.work-pass.ensures.takers ∙ (c.into_takers.ensures.0 ∙ own.0)) in
    let unused : taken_by c.into_takers.result.items ≡ [] = ap taken_by c.into_takers.ensures.1 ∙ (subst (HasShown c.in-Some.rack.takers c.self.inside.done.items) (c.self.view_is ∙ c.requires.first) own.1).0 in
    let jobs : IsPermutation (taken_by report.takers.items) (results report.done.items ++ kept_back report.ended) =
    subst (λ l. IsPermutation (taken_by report.takers.items) (l ++ (results report.done.items ++ kept_back report.ended))) unused c.work-pass.ensures.jobs in
    let shown : HasShown c.of.result.takers report.done.items (Some report.ended) = subst (λ ts. HasShown ts report.done.items (Some report.ended)) (sym c.of.ensures.1) jobs in
    (subst (λ o. IsSomeAnd o (λ (r : OfRack). IsFor g.Y.Yard.queues r × HasShown r.takers report.done.items (Some report.ended))) (sym c.replace-away.ensures.after) (back, shown), c.self.invariant.1, c.self.invariant.2, c.self.invariant.3, All-weaker (WasLetThrough (g.G.Gate.passed c.self.inside.gate.now) (g.G.Gate.told c.self.inside.gate.now)) g.Y.Yard.answers c.self.invariant.5 report.done.items c.work-pass.ensures.gate, c.self.invariant.5, c.self.invariant.6)

pub returns-clause-turns : goal.returns-clause-turns
returns-clause-turns g c =
    let report = c.work-pass.result in
    if_idle_then report.ended (λ t. (t.0, t.1, c.self.invariant.6 c.args.pass.seat t.0 t.2)) c.work-pass.ensures.turns
