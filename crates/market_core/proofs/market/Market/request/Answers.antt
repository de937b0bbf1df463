use Rattle.std.proofs.Common.{◌≡◌, ◌≤◌, ap, ◌∙◌, arith}
use Rattle.market_types.specs.State.{State}
use Rattle.market_types.specs.declared.command.Cmd.TheVariants.{Request}
use Rattle.arena_store.specs.Arenas.{beside}
use Rattle.arena_store.specs.Bits.{bits}
use Rattle.market_core.specs.Visits.{least_visits}
use Rattle.market_core.specs.Shown.{shown}
use Rattle.market_core.proofs.Meters.{beside-few, node-alone}
use Rattle.market_core.proofs.Steps.{sound-changed}
use Rattle.market_core.proofs.market.Market.request.Goals as goal
use Rattle.market_core.proofs.market.Market.request.Goals.{in-Ok, in-Err}

pub invariant_of-self : goal.invariant_of-self
invariant_of-self c =
    record {
      sound = sound-changed (shown c.self.inside) c.args.arena c.change.new.self c.change.result c.self.invariant.sound c.change.ensures.next c.change.ensures.unchanged;
      unneeded = tt;
    }

pub returns-clause-alone : goal.returns-clause-alone
returns-clause-alone c few =
    let arenas : c.self.inside.arenas ≡ c.args.self.now.arenas = ap (λ (s : State). s.arenas) c.self.view_is in
    let short : beside c.args.arena c.args.self.now.arenas ≤ 12 = beside-few c.args.arena c.args.self.now.arenas few in
    let is = node-alone (beside c.args.arena c.args.self.now.arenas) short in
    elim c.match-change.branch as (λ _. c.change.new.visits ≡ least_visits c.args.self.now (Request c.args.arena c.args.workers c.args.mandatory) c.match-change.result) [
      | in-Ok w ↦
          let counted = w.in-Ok.ensures.alone (rw arenas short) in
          rw w.result-is (omega (arith, c.requires.uncounted, counted, ap (λ xs. bits (beside c.args.arena xs)) arenas, is))
      | in-Err w ↦ rw w.result-is (w.in-Err.ensures.uncounted ∙ c.requires.uncounted)
    ]
