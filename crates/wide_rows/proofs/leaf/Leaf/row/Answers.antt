use Rattle.std.specs.List.{slice_get}
use Rattle.std.proofs.Common.{ap, sym, ◌∙◌, Some}
use Rattle.wide_rows.specs.Leaves.{lane}
use Rattle.wide_rows.proofs.Rows.{get-row, get-none}
use Rattle.wide_rows.proofs.leaf.Leaf.row.Goals as goal

pub returns-then-index-count : goal.returns-then-index-count
returns-then-index-count c =
    let d = c.self.inside.columns in
    ap Some c.row.ensures ∙ sym (get-row (lane d) d.count c.args.index c.if-index-count.true) ∙ ap (λ rows. slice_get rows c.args.index) c.self.view_is

pub returns-else-index-count : goal.returns-else-index-count
returns-else-index-count c =
    let d = c.self.inside.columns in
    sym (get-none (lane d) d.count c.args.index c.if-index-count.false) ∙ ap (λ rows. slice_get rows c.args.index) c.self.view_is
