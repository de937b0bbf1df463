use Rattle.std.proofs.Common.{length, ap, arith}
use Rattle.wide_rows.specs.Shelves.{Shelved}
use Rattle.wide_rows.proofs.OfShelves.{few_leaves}
use Rattle.wide_rows.proofs.shelf.Shelf.len.Goals as goal

pub returns-clause-few : goal.returns-clause-few
returns-clause-few c =
    omega (arith, (few_leaves c.self.inside.leaves.items c.self.invariant.leaves).0, ap (λ (v : Shelved). v.leaves) c.self.view_is, ap (λ (v : Shelved). length v.rows) c.self.view_is)
