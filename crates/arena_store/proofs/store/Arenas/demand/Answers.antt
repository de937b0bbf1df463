use Rattle.std.proofs.Common.{arith, ap, ◌∙◌, ◌≡◌, ◌-◌}
use Rattle.market_types.specs.Rows.{requests}
use Rattle.arena_store.specs.Store.{by_stamp}
use Rattle.arena_store.proofs.LevelRows.{level_rows-demand}
use Rattle.arena_store.proofs.Stored.{list-at}
use Rattle.arena_store.proofs.store.Arenas.demand.Goals as goal

pub returns-clause-exact : goal.returns-clause-exact
returns-clause-exact c =
    let s = c.self.inside in
    let index : c.index.result ≡ c.args.level - 1 = omega arith in
    let same = list-at s.table.arenas s.lists s.enqueued c.self.invariant c.args.level c.index.result (omega arith) (omega arith) index in
    rw (← c.self.view_is) (c.demand.ensures.exact ∙ ap requests same ∙ level_rows-demand c.args.level (by_stamp s.table.arenas))
