use Rattle.std.proofs.Common.{◌≡◌, ◌+◌, ◌≤◌, ap, ◌∙◌, arith}
use Rattle.market_types.specs.State.{State}
use Rattle.market_types.specs.declared.command.Cmd.TheVariants.{Close}
use Rattle.arena_store.specs.Arenas.{beside}
use Rattle.arena_store.specs.Bits.{bits}
use Rattle.market_core.specs.Visits.{least_visits}
use Rattle.market_core.specs.Shown.{shown}
use Rattle.market_core.proofs.Meters.{beside-few, way-alone}
use Rattle.market_core.proofs.Steps.{sound-removed}
use Rattle.market_core.proofs.market.Market.close.Goals as goal
use Rattle.market_core.proofs.market.Market.close.Goals.{in-Some-remove, in-None-remove}

pub invariant_of-self : goal.invariant_of-self
invariant_of-self c = record { sound = rw c.remove.ensures.exact (sound-removed (shown c.self.inside) c.args.arena c.self.invariant.sound); unneeded = tt }

pub returns-clause-alone : goal.returns-clause-alone
returns-clause-alone c few =
    let arenas : c.self.inside.arenas ≡ c.args.self.now.arenas = ap (λ (s : State). s.arenas) c.self.view_is in
    let short : beside c.args.arena c.args.self.now.arenas ≤ 12 = beside-few c.args.arena c.args.self.now.arenas few in
    let is = way-alone (beside c.args.arena c.args.self.now.arenas) short in
    elim c.match-remove.branch as (λ _. c.remove.new.visits ≡ least_visits c.args.self.now (Close c.args.arena) c.match-remove.result) [
      | in-Some-remove w ↦
          let counted : c.remove.new.visits ≡ c.args.visits.now + bits (beside c.args.arena c.self.inside.arenas) = w.in-Some-remove.ensures.alone (rw arenas short) in
          rw w.result-is (omega (arith, c.requires.uncounted, counted, ap (λ xs. bits (beside c.args.arena xs)) arenas, is))
      | in-None-remove w ↦ rw w.result-is (w.in-None-remove.ensures.uncounted ∙ c.requires.uncounted)
    ]
