use Rattle.std.proofs.Common.{arith, refl, sym, ap, ◌∙◌, ◌≡◌, ℕ, ◌+◌, ◌*◌, ◌≤◌, ◌<◌}
use Rattle.market_types.specs.State.{State}
use Rattle.market_types.specs.Claims.{request_of}
use Rattle.market_types.specs.Allotment.{total_request, at_level, demand, assigned, share_of, carry_after}
use Rattle.arena_store.specs.Arenas.{newer, IsFound}
use Rattle.market_core.specs.Ahead.{asked_ahead}
use Rattle.market_core.proofs.Allotted.{allotment_of-found, request-within}
use Rattle.market_core.proofs.Ahead.{asked_ahead-found}
use Rattle.market_core.proofs.market.Market.portion_of.Goals as goal
use Rattle.market_core.proofs.market.Market.portion_of.Goals.{After-before-asked_before}

module _ (c : After-before-asked_before) where
  found-here : IsFound c.args.stored.number c.args.stored c.args.self.now.arenas
  found-here = c.requires.shared.once.found c.args.stored.number c.args.stored c.requires.there

  asked : c.from-request.result ≡ request_of c.args.stored.claim
  asked = c.from-request.ensures ∙ c.request.ensures.exact ∙ ap request_of c.claim.ensures

  before : c.before-asked_before.result ≡ total_request (at_level c.args.stored.level (newer c.args.stored.stamp c.args.self.now.arenas))
  before =
      c.before-asked_before.ensures.exact
      ∙ ap (λ l. total_request (at_level l (newer c.stamp.result c.self.inside.arenas))) c.level-level.ensures
      ∙ ap (λ t. total_request (at_level c.args.stored.level (newer t c.self.inside.arenas))) c.stamp.ensures
      ∙ ap (λ (s : State). total_request (at_level c.args.stored.level (newer c.args.stored.stamp s.arenas))) c.self.view_is

  part : c.before-asked_before.result + c.from-request.result ≤ c.args.part.demand
  part = omega (arith, before, asked, c.requires.shared.demand, request-within c.args.stored.number c.args.stored c.args.self.now.arenas found-here)

  ahead : c.before-asked_before.result ≡ asked_ahead c.args.stored.number (at_level c.args.stored.level c.args.self.now.arenas)
  ahead = before ∙ asked_ahead-found c.args.stored.number c.args.stored c.args.self.now.arenas found-here

-- a demand fits 32 bits
a-word : (n : ℕ) → n ≤ 1024 * 65535 → n < 4294967296
a-word n most = omega arith

pub overflow_cast-before : goal.overflow_cast-before
overflow_cast-before c = omega (arith, part (goal.at.overflow_cast-before c).After-before-asked_before, a-word _ c.requires.shared.small)

pub returns-then-request-eq0-clause-workers : goal.returns-then-request-eq0-clause-workers
returns-then-request-eq0-clause-workers c =
    let s = c.args.self.now in
    let row = c.args.stored in
    let here = (goal.at.returns-then-request-eq0-clause-workers c).After-before-asked_before in
    let idle : request_of row.claim ≡ 0 = sym (asked here) ∙ c.if-request-eq0.true in
    let zero : share_of (assigned s) (demand s) (carry_after (assigned s) (demand s) 0 (at_level row.level (newer row.stamp s.arenas))) row ≡ 0 = rw idle refl in
    sym
    (allotment_of-found s row.number row (found-here here) (c.requires.shared.low, c.requires.shared.high) c.requires.shared.some (c.no_carry_to_keep.ensures.after_a_level s (assigned s))
    ∙ zero)

pub returns-then-request-eq0-clause-before : goal.returns-then-request-eq0-clause-before
returns-then-request-eq0-clause-before c = ahead (goal.at.returns-then-request-eq0-clause-before c).After-before-asked_before

pub share-workers-requires-clause-some_demand : goal.share-workers-requires-clause-some_demand
share-workers-requires-clause-some_demand c = omega (arith, part (goal.at.share-workers-requires-clause-some_demand c).After-before-asked_before, c.if-request-eq0.false)

pub share-workers-requires-clause-small_demand : goal.share-workers-requires-clause-small_demand
share-workers-requires-clause-small_demand c = a-word _ c.requires.shared.small

pub share-workers-requires-clause-within_demand : goal.share-workers-requires-clause-within_demand
share-workers-requires-clause-within_demand c = c.requires.shared.within

pub share-workers-requires-clause-part_of_demand : goal.share-workers-requires-clause-part_of_demand
share-workers-requires-clause-part_of_demand c = part (goal.at.share-workers-requires-clause-part_of_demand c).After-before-asked_before

pub returns-clause-workers : goal.returns-clause-workers
returns-clause-workers c =
    let here = (goal.at.returns-clause-workers c).After-before-asked_before in
    let s = c.args.self.now in
    let row = c.args.stored in
    c.share-workers.ensures.workers_of (assigned s) (demand s) (newer row.stamp s.arenas) row
    (record { assigned_is = c.requires.shared.assigned; demand_is = c.requires.shared.demand; request_is = asked here }) (before here)
    ∙ sym (allotment_of-found s row.number row (found-here here) (c.requires.shared.low, c.requires.shared.high) c.requires.shared.some (c.no_carry_to_keep.ensures.after_a_level s (assigned s)))

pub returns-clause-before : goal.returns-clause-before
returns-clause-before c = ahead (goal.at.returns-clause-before c).After-before-asked_before
