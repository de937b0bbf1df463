use Rattle.arena_store.proofs.Once.{stand-once}
use Rattle.arena_store.proofs.Stored.{kept}
use Rattle.arena_store.proofs.store.Arenas.stand_once.Goals as goal

pub returns : goal.returns
returns c = rw (← c.self.view_is) (stand-once _ (kept c.self.inside.table.arenas c.self.inside.lists c.self.inside.enqueued c.self.invariant))
