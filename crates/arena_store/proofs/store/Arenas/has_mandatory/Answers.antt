use Rattle.std.proofs.Common.{sym}
use Rattle.arena_store.proofs.Stored.{has-work}
use Rattle.arena_store.proofs.store.Arenas.has_mandatory.Goals as goal

pub returns : goal.returns
returns c = record { exact = rw (← c.self.view_is) (sym (has-work c.self.inside.table.arenas c.self.inside.lists c.self.inside.enqueued c.self.invariant)) }
