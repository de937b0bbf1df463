use Rattle.std.proofs.Common.{sym, ap, ◌∙◌}
use Rattle.wide_rows.specs.Joined.{joined_below}
use Rattle.wide_rows.specs.Shelves.{Shelved, leaf_at}
use Rattle.wide_rows.proofs.OfShelves.{rows_joined}
use Rattle.wide_rows.proofs.shelf.Shelf.walk.Goals as goal

pub returns : goal.returns
returns c =
    let leaves = c.self.inside.leaves.items in
    c.of_leaves.ensures ∙ c.new.ensures ∙ ap (joined_below (leaf_at leaves)) (c.len.ensures ∙ c.self.inside.leaves.ok.0) ∙ sym (rows_joined leaves) ∙ ap (λ (v : Shelved). v.rows) c.self.view_is
