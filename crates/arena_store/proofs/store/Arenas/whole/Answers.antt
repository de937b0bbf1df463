use Rattle.std.proofs.Common.{arith, ap, ◌∙◌, ◌-◌, ◌≡◌, ℕ, List}
use Rattle.market_types.specs.declared.row.Row.{Row}
use Rattle.market_types.specs.Allotment.{at_level}
use Rattle.market_types.specs.Rows.{requests}
use Rattle.arena_store.specs.Store.{by_stamp}
use Rattle.arena_store.proofs.Stored.{list-at, list-few, list-height, all-few}
use Rattle.arena_store.proofs.Indices.{requests-rows}
use Rattle.arena_store.proofs.store.Arenas.whole.Goals as goal

pub returns-clause-rows : goal.returns-clause-rows
returns-clause-rows c =
    let s = c.self.inside in
    let index : c.index.result ≡ c.args.level - 1 = omega arith in
    rw (← c.self.view_is) (ap (λ (span : List Row × ℕ). span.0) c.whole.ensures.exact ∙ list-at s.table.arenas s.lists s.enqueued c.self.invariant c.args.level c.index.result (omega arith) (omega arith) index)

pub returns-clause-asked : goal.returns-clause-asked
returns-clause-asked c =
    let s = c.self.inside in
    let index : c.index.result ≡ c.args.level - 1 = omega arith in
    rw (← c.self.view_is) (ap requests (ap (λ (span : List Row × ℕ). span.0) c.whole.ensures.exact ∙ list-at s.table.arenas s.lists s.enqueued c.self.invariant c.args.level c.index.result (omega arith) (omega arith) index)
    ∙ requests-rows (at_level c.args.level (by_stamp s.table.arenas)))

pub returns-clause-height : goal.returns-clause-height
returns-clause-height c =
    let s = c.self.inside in
    let index : c.index.result ≡ c.args.level - 1 = omega arith in
    rw (← c.self.view_is, c.whole.ensures.exact) (list-height s.table.arenas s.lists s.enqueued c.self.invariant c.args.level c.index.result (omega arith) (omega arith) index)

pub returns-clause-short : goal.returns-clause-short
returns-clause-short c =
    let s = c.self.inside in
    let index : c.index.result ≡ c.args.level - 1 = omega arith in
    let few = list-few s.table.arenas s.lists s.enqueued c.self.invariant c.args.level c.index.result (omega arith) (omega arith) index in
    rw c.whole.ensures.exact (omega (arith, few, c.self.invariant.few))

pub returns-clause-few : goal.returns-clause-few
returns-clause-few c = rw (← c.self.view_is) (all-few c.self.inside.table.arenas c.self.inside.lists c.self.inside.enqueued c.self.invariant)
