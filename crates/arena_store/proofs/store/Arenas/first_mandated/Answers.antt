use Rattle.std.specs.Prelude.{IfSome}
use Rattle.std.proofs.Common.{arith, sym, ap, subst, ◌∙◌, ◌-◌, ◌+◌, ◌≤◌, ◌*◌, length, Option, ◌≡◌}
use Rattle.std.specs.Option.{option_map}
use Rattle.market_types.specs.Bits.{bits}
use Rattle.market_types.specs.declared.row.Row.{Row}
use Rattle.wide_rows.specs.Leveled.{rows_at}
use Rattle.wide_rows.specs.Ways.{least_way}
use Rattle.arena_store.specs.Store.{by_stamp}
use Rattle.arena_store.proofs.Stored.{list-mandated, list-node, list-least, list-alone, list-visits, all-visits}
use Rattle.arena_store.proofs.store.Arenas.first_mandated.Goals as goal

pub returns-in-Some : goal.returns-in-Some
returns-in-Some c =
    let s = c.self.inside in
    let index : c.index.result ≡ c.args.level - 1 = omega arith in
    let visits : c.first_mandated-row.new.visits ≤ c.args.visits.now + 2 * bits (length (by_stamp s.table.arenas)) =
    list-visits s.table.arenas s.lists s.enqueued c.self.invariant c.args.level c.index.result (omega arith) (omega arith) index c.args.visits.now c.first_mandated-row.new.visits c.first_mandated-row.ensures.visits in
    let found : c.args.visits.now + least_way (length (rows_at c.index.result s.lists)) ≤ c.first_mandated-row.new.visits =
    subst (λ (o : Option Row). IfSome o (λ _. c.args.visits.now + least_way (length (rows_at c.index.result s.lists)) ≤ c.first_mandated-row.new.visits)) c.in-Some.is c.first_mandated-row.ensures.least in
    let least = list-least s.table.arenas s.lists s.enqueued c.self.invariant c.args.level c.index.result (omega arith) (omega arith) index c.args.visits.now c.first_mandated-row.new.visits found in
    rw (← c.self.view_is) (record {
      exact = ap (option_map (λ (r : Row). r.arena)) (sym c.in-Some.is) ∙ list-mandated s.table.arenas s.lists s.enqueued c.self.invariant c.args.level c.index.result (omega arith) (omega arith) index c.first_mandated-row.result c.first_mandated-row.ensures.exact;
      entered = list-node s.table.arenas s.lists s.enqueued c.self.invariant c.args.level c.index.result (omega arith) (omega arith) index c.args.visits.now c.first_mandated-row.new.visits c.first_mandated-row.ensures.entered;
      least = least;
      alone = list-alone s.table.arenas s.lists s.enqueued c.self.invariant c.args.level c.index.result (omega arith) (omega arith) index c.args.visits.now c.first_mandated-row.new.visits c.first_mandated-row.ensures.alone;
      visits = visits;
      few = omega (arith, visits, all-visits s.table.arenas s.lists s.enqueued c.self.invariant);
    })

pub returns-in-None : goal.returns-in-None
returns-in-None c =
    let s = c.self.inside in
    let index : c.index.result ≡ c.args.level - 1 = omega arith in
    let visits : c.first_mandated-row.new.visits ≤ c.args.visits.now + 2 * bits (length (by_stamp s.table.arenas)) =
    list-visits s.table.arenas s.lists s.enqueued c.self.invariant c.args.level c.index.result (omega arith) (omega arith) index c.args.visits.now c.first_mandated-row.new.visits c.first_mandated-row.ensures.visits in
    rw (← c.self.view_is) (record {
      exact = ap (option_map (λ (r : Row). r.arena)) (sym c.in-None.is) ∙ list-mandated s.table.arenas s.lists s.enqueued c.self.invariant c.args.level c.index.result (omega arith) (omega arith) index c.first_mandated-row.result c.first_mandated-row.ensures.exact;
      entered = list-node s.table.arenas s.lists s.enqueued c.self.invariant c.args.level c.index.result (omega arith) (omega arith) index c.args.visits.now c.first_mandated-row.new.visits c.first_mandated-row.ensures.entered;
      least = tt;
      alone = list-alone s.table.arenas s.lists s.enqueued c.self.invariant c.args.level c.index.result (omega arith) (omega arith) index c.args.visits.now c.first_mandated-row.new.visits c.first_mandated-row.ensures.alone;
      visits = visits;
      few = omega (arith, visits, all-visits s.table.arenas s.lists s.enqueued c.self.invariant);
    })
