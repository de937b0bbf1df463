use Rattle.std.proofs.Common.{arith, refl, ap, ◌≡◌, ◌+◌, ◌≤◌, length}
use Rattle.market_types.specs.State.{State}
use Rattle.market_types.specs.Allotment.{at_level}
use Rattle.market_types.specs.Step.{arena_at, without}
use Rattle.arena_store.specs.Arenas.{beside}
use Rattle.arena_store.specs.Bits.{bits}
use Rattle.arena_store.specs.Ways.{least_way, least_put}
use Rattle.market_core.proofs.Meters.{beside-few, rest-few, way-alone, put-alone}
use Rattle.market_core.specs.Shown.{shown}
use Rattle.market_core.proofs.Steps.{sound-promoted}
use Rattle.market_core.proofs.market.Market.priority.Goals as goal

pub invariant_of-self-2 : goal.invariant_of-self-2
invariant_of-self-2 c =
    let s = shown c.self.inside in
    let level : c.get.result ≡ c.args.level = c.get.ensures.exact in
    record {
      sound = sound-promoted s c.args.arena c.args.level c.promote.new.self (arena_at c.args.arena s.arenas) c.self.invariant.sound refl c.in-Some-promote.ensures.there (omega arith, omega arith) c.promote.ensures.exact;
      unneeded = tt;
    }

pub returns-clause-least : goal.returns-clause-least
returns-clause-least c =
    let arenas : c.self.inside.arenas ≡ c.args.self.now.arenas = ap (λ (s : State). s.arenas) c.self.view_is in
    let level : c.get.result ≡ c.args.level = c.get.ensures.exact in
    let least : c.args.visits.now + least_way (beside c.args.arena c.args.self.now.arenas) + least_put (length (at_level c.args.level (without c.args.arena c.args.self.now.arenas))) ≤ c.promote.new.visits = rw (← arenas) c.in-Some-promote.ensures.least in
    omega (arith, least)

pub returns-clause-alone : goal.returns-clause-alone
returns-clause-alone c few =
    let xs = c.args.self.now.arenas in
    let arenas : c.self.inside.arenas ≡ xs = ap (λ (s : State). s.arenas) c.self.view_is in
    let rest = without c.args.arena xs in
    let short : beside c.args.arena xs ≤ 12 = beside-few c.args.arena xs few in
    let shorter : length (at_level c.args.level rest) ≤ 12 = omega (arith, few c.args.level, rest-few c.args.level c.args.arena xs) in
    let alone : beside c.args.arena xs ≤ 12 → length (at_level c.args.level (without c.args.arena xs)) ≤ 12 → c.promote.new.visits ≡ c.args.visits.now + bits (beside c.args.arena xs) + bits (length (at_level c.args.level (without c.args.arena xs)) + 1) = rw (← arenas) c.in-Some-promote.ensures.alone in
    omega (arith, c.requires.uncounted, alone short shorter, way-alone (beside c.args.arena xs) short, put-alone (length (at_level c.args.level rest)) shorter)
