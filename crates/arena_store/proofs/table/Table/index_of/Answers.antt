use Rattle.arena_store.proofs.InPlace.{keys-rising, keys-none, keys-some}
use Rattle.arena_store.proofs.table.Table.index_of.Goals as goal

pub index_of-requires : goal.index_of-requires
index_of-requires c =
    rw c.deref.ensures.value (keys-rising c.self.invariant.0 (rw (← c.self.view_is) at c.requires))

pub returns-clause-missing : goal.returns-clause-missing
returns-clause-missing c =
    rw (← c.self.view_is) (keys-none c.self.invariant.0 c.args.arena c.get.result c.index_of.result c.get.ensures (rw c.deref.ensures.value at c.index_of.ensures.missing))

pub returns-clause-found : goal.returns-clause-found
returns-clause-found c =
    rw (← c.self.view_is) (keys-some c.self.invariant.0 c.args.arena c.get.result c.index_of.result c.get.ensures
    (rw c.deref.ensures.value at c.index_of.ensures.there) (rw c.deref.ensures.value at c.index_of.ensures.found))
