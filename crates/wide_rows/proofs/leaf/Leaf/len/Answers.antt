use Rattle.std.proofs.Common.{◌≤◌, length, ap, sym, subst, ◌∙◌}
use Rattle.wide_rows.specs.Leaves.{lane}
use Rattle.wide_rows.proofs.Rows.{length-rows}
use Rattle.wide_rows.proofs.Whole.{rows_room}
use Rattle.wide_rows.proofs.leaf.Leaf.len.Goals as goal

pub returns-clause-exact : goal.returns-clause-exact
returns-clause-exact c = let d = c.self.inside.columns in sym (length-rows (lane d) d.count) ∙ ap length c.self.view_is

pub returns-clause-most : goal.returns-clause-most
returns-clause-most c = subst (λ rows. length rows ≤ 16) c.self.view_is (rows_room c.self.inside.columns c.self.invariant)
