use Rattle.std.proofs.Common.{arith, sym, ap, ◌∙◌, ◌≡◌, ◌-◌, List}
use Rattle.std.specs.Prelude.{slice_get}
use Rattle.market_types.specs.declared.row.Row.{Row}
use Rattle.market_types.specs.State.{Arena}
use Rattle.market_types.specs.Allotment.{at_level}
use Rattle.market_types.specs.Step.{arena_at}
use Rattle.arena_store.specs.Arenas.{level_rows}
use Rattle.arena_store.specs.Store.{by_stamp}
use Rattle.arena_store.proofs.ByNumber.{apart-by_stamp}
use Rattle.arena_store.proofs.Stored.{list-at}
use Rattle.arena_store.proofs.Indices.{walk-found, walk-missing}
use Rattle.arena_store.proofs.store.Arenas.nth_of.Goals as goal
use Rattle.arena_store.proofs.store.Arenas.nth_of.Goals.{After-walk}

module _ (c : After-walk) where
  there : c.walk.result ≡ slice_get (level_rows c.args.level (by_stamp c.self.inside.table.arenas)) c.args.index
  there =
      let s = c.self.inside in
      let index : c.index.result ≡ c.args.level - 1 = omega arith in
      c.walk.ensures.exact
      ∙ ap (λ (xs : List Row). slice_get xs c.args.index) (list-at s.table.arenas s.lists s.enqueued c.self.invariant c.args.level c.index.result (omega arith) (omega arith) index)

pub returns-in_err-row-clause-exact : goal.returns-in_err-row-clause-exact
returns-in_err-row-clause-exact c =
    let here = there (goal.at.returns-in_err-row-clause-exact c).After-walk in
    c.from_residual.ensures
    ∙ sym (walk-missing c.args.level c.args.index (by_stamp c.self.inside.table.arenas) (sym c.in_err-row.was ∙ here))
    ∙ ap (λ (xs : List Arena). slice_get (at_level c.args.level xs) c.args.index) c.self.view_is

pub returns-clause-exact : goal.returns-clause-exact
returns-clause-exact c =
    let here = there (goal.at.returns-clause-exact c).After-walk in
    let s = c.self.inside in
    c.get.ensures.exact ∙ ap (arena_at c.in_ok-row.row.arena) (sym c.self.view_is)
    ∙ walk-found c.args.level c.args.index (by_stamp s.table.arenas) c.in_ok-row.row (apart-by_stamp s.table.arenas c.self.invariant.by_number) (sym c.in_ok-row.was ∙ here)
    ∙ ap (λ (xs : List Arena). slice_get (at_level c.args.level xs) c.args.index) c.self.view_is
