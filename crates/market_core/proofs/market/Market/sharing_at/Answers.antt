use Rattle.std.proofs.Common.{ℕ, arith, refl, sym, ◌≡◌, ◌≤◌, ◌<◌}
use Rattle.market_types.specs.State.{State}
use Rattle.market_types.specs.Allotment.{at_level, assigned, total_request}
use Rattle.arena_store.specs.Arenas.{level_rows}
use Rattle.market_core.proofs.LevelWalk.{Shared, walk-of}
use Rattle.market_core.proofs.market.Market.sharing_at.Goals as goal

same-le : (n m : ℕ) → n ≡ m → n ≤ m
same-le n m e = omega arith

-- nothing is carried where nothing is asked for
some-asked : (asked demand : ℕ) → asked ≡ demand → 0 < asked → 0 < demand
some-asked asked demand e some = omega (arith, e, some)

pub returns-clause-exact : goal.returns-clause-exact
returns-clause-exact c =
    let s : State = c.args.self.now in
    let part = c.part_of-part.ensures in
    let asked : total_request (at_level c.args.level s.arenas) ≡ c.part_of-part.result.demand = sym part.demand in
    let shared : Shared s = record { stand = part.once; leveled = part.leveled; some = part.some; whole = c.no_carry_to_keep.ensures.after_a_level s (assigned s) } in
    record {
      fits = (part.within, (part.small, (same-le _ _ asked, some-asked _ _ asked)));
      rows = walk-of s c.args.level c.part_of-part.result.assigned c.part_of-part.result.demand s.seats (level_rows c.args.level s.arenas) shared part.assigned part.demand refl refl;
    }
