use Rattle.std.proofs.Common.{sym, ap, ◌∙◌}
use Rattle.market_types.specs.State.{Arena}
use Rattle.arena_store.specs.Held.{index_in}
use Rattle.arena_store.proofs.Stored.{missing-by_stamp, found-by_stamp}
use Rattle.arena_store.proofs.store.Arenas.get.Goals as goal

pub returns-in_err-place-clause-exact : goal.returns-in_err-place-clause-exact
returns-in_err-place-clause-exact c =
    let missing = c.in_err-place.ensures.missing in
    rw (c.from_residual.ensures, ← c.self.view_is) (sym (missing-by_stamp c.args.arena c.self.inside.table.arenas missing))

pub returns-clause-exact : goal.returns-clause-exact
returns-clause-exact c =
    let there = c.in_ok-place.ensures.there in
    let found = c.in_ok-place.ensures.found in
    rw (← c.self.view_is) (sym (found-by_stamp c.args.arena (index_in c.self.inside.table.places c.in_ok-place.place) c.self.inside.table.arenas c.at.result c.self.invariant.by_number there c.at.ensures found))

pub returns-clause-number : goal.returns-clause-number
returns-clause-number c =
    let found = c.in_ok-place.ensures.found in
    ap (λ (a : Arena). a.number) c.at.ensures ∙ found c.at.result
