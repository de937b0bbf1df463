use Rattle.std.proofs.Common.{arith, ap, ◌∙◌, ◌≡◌, ◌-◌}
use Rattle.market_types.specs.Rows.{requests_above}
use Rattle.arena_store.proofs.LevelRows.{level_rows-before}
use Rattle.arena_store.proofs.Stored.{list-at, list-least, list-alone, list-visits, all-visits}
use Rattle.arena_store.proofs.store.Arenas.before.Goals as goal

pub returns-clause-exact : goal.returns-clause-exact
returns-clause-exact c =
    let s = c.self.inside in
    let index : c.index.result ≡ c.args.level - 1 = omega arith in
    rw (← c.self.view_is) (c.before-2.ensures.exact
    ∙ ap (requests_above c.args.stamp) (list-at s.table.arenas s.lists s.enqueued c.self.invariant c.args.level c.index.result (omega arith) (omega arith) index)
    ∙ level_rows-before c.args.level c.args.stamp _)

pub returns-clause-visits : goal.returns-clause-visits
returns-clause-visits c =
    let s = c.self.inside in
    let index : c.index.result ≡ c.args.level - 1 = omega arith in
    rw (← c.self.view_is) (list-visits s.table.arenas s.lists s.enqueued c.self.invariant c.args.level c.index.result (omega arith) (omega arith) index c.args.visits.now c.before-2.new.visits c.before-2.ensures.visits)

pub returns-clause-few : goal.returns-clause-few
returns-clause-few c =
    let s = c.self.inside in
    let index : c.index.result ≡ c.args.level - 1 = omega arith in
    omega (arith, all-visits s.table.arenas s.lists s.enqueued c.self.invariant, list-visits s.table.arenas s.lists s.enqueued c.self.invariant c.args.level c.index.result (omega arith) (omega arith) index c.args.visits.now c.before-2.new.visits c.before-2.ensures.visits)

pub returns-clause-least : goal.returns-clause-least
returns-clause-least c =
    let s = c.self.inside in
    let index : c.index.result ≡ c.args.level - 1 = omega arith in
    rw (← c.self.view_is) (list-least s.table.arenas s.lists s.enqueued c.self.invariant c.args.level c.index.result (omega arith) (omega arith) index c.args.visits.now c.before-2.new.visits c.before-2.ensures.least)

pub returns-clause-alone : goal.returns-clause-alone
returns-clause-alone c =
    let s = c.self.inside in
    let index : c.index.result ≡ c.args.level - 1 = omega arith in
    rw (← c.self.view_is) (list-alone s.table.arenas s.lists s.enqueued c.self.invariant c.args.level c.index.result (omega arith) (omega arith) index c.args.visits.now c.before-2.new.visits c.before-2.ensures.alone)
