use Rattle.std.proofs.Common.{arith}
use Rattle.arena_store.proofs.ByStamp.{length-by_stamp}
use Rattle.arena_store.proofs.store.Arenas.len.Goals as goal

pub returns-clause-exact : goal.returns-clause-exact
returns-clause-exact c = rw (← c.self.view_is) (omega (arith, length-by_stamp c.self.inside.table.arenas, c.len.ensures))

pub returns-clause-few : goal.returns-clause-few
returns-clause-few c = omega (arith, c.self.invariant.few, c.len.ensures)
