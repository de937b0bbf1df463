use Rattle.std.proofs.Common.{ap, sym, ◌∙◌, Some}
use Rattle.market_types.specs.Rows.{first_mandated}
use Rattle.wide_rows.proofs.Whole.{none_mandated, top_within, top_mandated}
use Rattle.wide_rows.proofs.leaf.Leaf.first_mandated.Goals as goal

pub row-requires : goal.row-requires
row-requires c = top_within c.self.inside.columns c.self.invariant c.if-mandated-eq0.false

pub returns-then-mandated-eq0 : goal.returns-then-mandated-eq0
returns-then-mandated-eq0 c = sym (none_mandated c.self.inside.columns c.self.invariant c.if-mandated-eq0.true) ∙ ap first_mandated c.self.view_is

pub returns-else-mandated-eq0 : goal.returns-else-mandated-eq0
returns-else-mandated-eq0 c = ap Some c.row.ensures ∙ sym (top_mandated c.self.inside.columns c.self.invariant c.if-mandated-eq0.false) ∙ ap first_mandated c.self.view_is
