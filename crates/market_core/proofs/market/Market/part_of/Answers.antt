use Rattle.std.proofs.Common.{arith, subst, ◌≤◌}
use Rattle.market_types.specs.State.{State}
use Rattle.arena_store.specs.Arenas.{StandOnce}
use Rattle.market_core.specs.Sound.{IsSound}
use Rattle.market_core.proofs.Shares.{level-assigned}
use Rattle.market_core.proofs.market.Market.part_of.Goals as goal

pub returns : goal.returns
returns c =
    let s : State = c.args.self.now in
    let sound : IsSound s = rw c.self.view_is at c.self.invariant.sound in
    let low : 1 ≤ c.args.level = omega arith in
    record {
      once = subst (λ (t : State). StandOnce t.arenas) c.self.view_is c.stand_once.ensures;
      leveled = sound.leveled;
      some = c.requires.some;
      low = low;
      high = c.requires.high;
      assigned = omega (arith, c.min.ensures, c.demand-demand.ensures.exact, c.requires.left, level-assigned s c.args.level (λ demands. c.bound_is_given_out.ensures.asked s demands sound.leveled) c.requires.some low c.requires.high);
      demand = c.demand-demand.ensures.exact;
      within = omega (arith, c.min.ensures);
      small = c.demand-demand.ensures.small;
    }
