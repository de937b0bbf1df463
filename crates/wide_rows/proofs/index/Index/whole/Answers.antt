use Rattle.std.proofs.Common.{not, sym, ap, ◌∙◌, inl, inr, eq-eqb}
use Rattle.std.proofs.lemmas.Bool.{cases_eq, ne_eqb}
use Rattle.wide_rows.proofs.OfStoreys.{total_sums, total_counts, none_mandated, some_mandated}
use Rattle.wide_rows.proofs.index.Index.whole.Goals as goal

pub returns-clause-rows : goal.returns-clause-rows
returns-clause-rows c = λ rows count h.
    let x = c.args.self.now in (
      c.total.ensures ∙ total_sums x rows count h,
      c.total-2.ensures ∙ total_counts x rows count h,
      elim (cases_eq x.mandated 0) [
        | inl e ↦ ap not (eq-eqb x.mandated 0 e) ∙ sym (none_mandated x rows count h e)
        | inr ne ↦ ap not (ne_eqb x.mandated 0 ne) ∙ sym (some_mandated x rows count h ne)
      ],
    )
