use Rattle.std.proofs.Common.{not, sym, ap, ◌∙◌, inl, inr, eq-eqb}
use Rattle.std.proofs.lemmas.Bool.{cases_eq, ne_eqb}
use Rattle.wide_rows.proofs.OfStoreys.{none_mandated, some_mandated}
use Rattle.wide_rows.proofs.index.Index.has_mandated.Goals as goal

pub returns : goal.returns
returns c = λ rows count h.
    let x = c.args.self.now in
    elim (cases_eq x.mandated 0) [
      | inl e ↦ ap not (eq-eqb x.mandated 0 e) ∙ sym (none_mandated x rows count h e)
      | inr ne ↦ ap not (ne_eqb x.mandated 0 ne) ∙ sym (some_mandated x rows count h ne)
    ]
