use Rattle.arena_store.proofs.InPlace.{index-of}
use Rattle.arena_store.proofs.table.Table.searched.Goals as goal

pub returns-clause-there : goal.returns-clause-there
returns-clause-there c =
    let there = rw (← c.self.view_is) at c.in_ok-index.ensures.there in
    let same = index-of c.self.invariant.0 c.in_ok-index.index c.index.result.now there c.index.ensures in
    rw (← c.self.view_is, same) there

pub returns-clause-found : goal.returns-clause-found
returns-clause-found c = λ d.
    let there = rw (← c.self.view_is) at c.in_ok-index.ensures.there in
    let found = rw (← c.self.view_is) at c.in_ok-index.ensures.found in
    let same = index-of c.self.invariant.0 c.in_ok-index.index c.index.result.now there c.index.ensures in
    rw (← c.self.view_is, same) (found d)
