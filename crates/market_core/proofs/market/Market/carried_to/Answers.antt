use Rattle.std.proofs.Common.{arith, refl, sym, ap, ◌∙◌, ◌≡◌, ℕ, ◌+◌, ◌*◌, ◌≤◌, ◌<◌, length}
use Rattle.market_types.specs.State.{State}
use Rattle.market_types.specs.Claims.{request_of}
use Rattle.market_types.specs.Allotment.{total_request, at_level, demand, assigned, limit_of, share_of, carry_after}
use Rattle.arena_store.specs.Arenas.{newer, IsFound}
use Rattle.arena_store.specs.Bits.{bits}
use Rattle.arena_store.specs.Ways.{least_way}
use Rattle.market_core.specs.Visits.{least_share}
use Rattle.market_core.proofs.Meters.{way-alone, share-unasked, share-way}
use Rattle.market_core.proofs.Allotted.{allotment_of-found, request-within}
use Rattle.market_core.proofs.market.Market.carried_to.Goals as goal
use Rattle.market_core.proofs.market.Market.carried_to.Goals.{After-before-before}

pub returns-then-request-eq0-clause-exact : goal.returns-then-request-eq0-clause-exact
returns-then-request-eq0-clause-exact c =
    let s = c.args.self.now in
    let row = c.args.stored in
    let found = c.requires.shared.once.found row.number row c.requires.there in
    let level : (1 ≤ row.level) × (row.level ≤ s.levels) = (c.requires.shared.low, c.requires.shared.high) in
    let some : 0 < limit_of s = c.requires.shared.some in
    let idle : request_of row.claim ≡ 0 = sym (c.from-request.ensures ∙ c.request.ensures.exact ∙ ap request_of c.claim.ensures) ∙ c.if-request-eq0.true in
    let zero : share_of (assigned s) (demand s) (carry_after (assigned s) (demand s) 0 (at_level row.level (newer row.stamp s.arenas))) row ≡ 0 = rw idle refl in
    sym (allotment_of-found s row.number row found level some (c.no_carry_to_keep.ensures.after_a_level s (assigned s)) ∙ zero)

module _ (c : After-before-before) where
  found-here : IsFound c.args.stored.number c.args.stored c.args.self.now.arenas
  found-here = c.requires.shared.once.found c.args.stored.number c.args.stored c.requires.there

  asked : c.from-request.result ≡ request_of c.args.stored.claim
  asked = c.from-request.ensures ∙ c.request.ensures.exact ∙ ap request_of c.claim.ensures

  before : c.before-before.result ≡ total_request (at_level c.args.stored.level (newer c.args.stored.stamp c.args.self.now.arenas))
  before =
      c.before-before.ensures.exact
      ∙ ap (λ l. total_request (at_level l (newer c.stamp.result c.self.inside.arenas))) c.level-level.ensures
      ∙ ap (λ t. total_request (at_level c.args.stored.level (newer t c.self.inside.arenas))) c.stamp.ensures
      ∙ ap (λ (s : State). total_request (at_level c.args.stored.level (newer c.args.stored.stamp s.arenas))) c.self.view_is

  part : c.before-before.result + c.from-request.result ≤ c.args.part.demand
  part = omega (arith, before, asked, c.requires.shared.demand, request-within c.args.stored.number c.args.stored c.args.self.now.arenas found-here)

-- a demand fits 32 bits
a-word : (n : ℕ) → n ≤ 1024 * 65535 → n < 4294967296
a-word n most = omega arith

pub share-workers-requires-clause-some_demand : goal.share-workers-requires-clause-some_demand
share-workers-requires-clause-some_demand c = omega (arith, part (goal.at.share-workers-requires-clause-some_demand c).After-before-before, c.if-request-eq0.false)

pub share-workers-requires-clause-small_demand : goal.share-workers-requires-clause-small_demand
share-workers-requires-clause-small_demand c = a-word _ c.requires.shared.small

pub share-workers-requires-clause-within_demand : goal.share-workers-requires-clause-within_demand
share-workers-requires-clause-within_demand c = c.requires.shared.within

pub share-workers-requires-clause-part_of_demand : goal.share-workers-requires-clause-part_of_demand
share-workers-requires-clause-part_of_demand c = part (goal.at.share-workers-requires-clause-part_of_demand c).After-before-before

pub returns-clause-exact : goal.returns-clause-exact
returns-clause-exact c =
    let here = (goal.at.returns-clause-exact c).After-before-before in
    let s = c.args.self.now in
    let row = c.args.stored in
    c.share-workers.ensures.workers_of (assigned s) (demand s) (newer row.stamp s.arenas) row
    (record { assigned_is = c.requires.shared.assigned; demand_is = c.requires.shared.demand; request_is = asked here }) (before here)
    ∙ sym (allotment_of-found s row.number row (found-here here) (c.requires.shared.low, c.requires.shared.high) c.requires.shared.some (c.no_carry_to_keep.ensures.after_a_level s (assigned s)))

pub returns-then-request-eq0-clause-least : goal.returns-then-request-eq0-clause-least
returns-then-request-eq0-clause-least c =
    let idle : request_of c.args.stored.claim ≡ 0 = sym (c.from-request.ensures ∙ c.request.ensures.exact ∙ ap request_of c.claim.ensures) ∙ c.if-request-eq0.true in
    omega (arith, share-unasked c.args.self.now c.args.stored idle)

pub returns-then-request-eq0-clause-alone : goal.returns-then-request-eq0-clause-alone
returns-then-request-eq0-clause-alone c few =
    let idle : request_of c.args.stored.claim ≡ 0 = sym (c.from-request.ensures ∙ c.request.ensures.exact ∙ ap request_of c.claim.ensures) ∙ c.if-request-eq0.true in
    omega (arith, share-unasked c.args.self.now c.args.stored idle)

-- the way down that an allotment takes
way : (c : After-before-before) → 0 < limit_of c.args.self.now → 0 < c.from-request.result → least_share c.args.self.now c.args.stored ≡ least_way (length (at_level c.args.stored.level c.args.self.now.arenas))
way c some asks = share-way c.args.self.now c.args.stored some (omega (arith, asks, asked c))

pub returns-clause-least : goal.returns-clause-least
returns-clause-least c =
    let at : c.level-level.result ≡ c.args.stored.level = c.level-level.ensures in
    let arenas : c.self.inside.arenas ≡ c.args.self.now.arenas = ap (λ (s : State). s.arenas) c.self.view_is in
    let is = way (goal.at.returns-clause-least c).After-before-before c.requires.shared.some (omega (arith, c.if-request-eq0.false)) in
    let least : c.args.visits.now + least_way (length (at_level c.args.stored.level c.args.self.now.arenas)) ≤ c.before-before.new.visits = rw (← at, ← arenas) c.before-before.ensures.least in
    omega (arith, is, least)

pub returns-clause-alone : goal.returns-clause-alone
returns-clause-alone c few =
    let at : c.level-level.result ≡ c.args.stored.level = c.level-level.ensures in
    let arenas : c.self.inside.arenas ≡ c.args.self.now.arenas = ap (λ (s : State). s.arenas) c.self.view_is in
    let here : length (at_level c.args.stored.level c.args.self.now.arenas) ≤ 12 = few c.args.stored.level in
    let is = way (goal.at.returns-clause-alone c).After-before-before c.requires.shared.some (omega (arith, c.if-request-eq0.false)) in
    let alone : length (at_level c.args.stored.level c.args.self.now.arenas) ≤ 12 → c.before-before.new.visits ≡ c.args.visits.now + bits (length (at_level c.args.stored.level c.args.self.now.arenas)) = rw (← at, ← arenas) c.before-before.ensures.alone in
    omega (arith, is, alone here, way-alone (length (at_level c.args.stored.level c.args.self.now.arenas)) here)
