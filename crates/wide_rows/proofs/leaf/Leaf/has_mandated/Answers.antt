use Rattle.std.proofs.Common.{not, is_some, ap, sym, ◌∙◌, inl, inr, eq-eqb}
use Rattle.std.proofs.lemmas.Bool.{cases_eq, ne_eqb}
use Rattle.market_types.specs.Rows.{first_mandated}
use Rattle.market_types.specs.declared.row.Row.{Row}
use Rattle.std.proofs.Common.{List, Option}
use Rattle.wide_rows.proofs.Whole.{none_mandated, top_mandated}
use Rattle.wide_rows.proofs.leaf.Leaf.has_mandated.Goals as goal

pub returns : goal.returns
returns c =
    let d = c.self.inside.columns in
    elim (cases_eq d.mandated 0) [
      | inl e ↦ ap not (eq-eqb d.mandated 0 e) ∙ sym (ap (λ (o : Option Row). is_some o) (none_mandated d c.self.invariant e))
      | inr ne ↦ ap not (ne_eqb d.mandated 0 ne) ∙ sym (ap (λ (o : Option Row). is_some o) (top_mandated d c.self.invariant ne))
    ] ∙ ap (λ (rows : List Row). is_some (first_mandated rows)) c.self.view_is
