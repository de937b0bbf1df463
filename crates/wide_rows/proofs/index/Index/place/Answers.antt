use Rattle.std.proofs.Common.{◌≡◌, ◌-◌, ℕ, min, sym, ap, subst, ◌∙◌, arith}
use Rattle.wide_rows.specs.Columns.{place_above}
use Rattle.wide_rows.specs.Storeys.{IsPlace}
use Rattle.wide_rows.proofs.OfStoreys.{place_is}
use Rattle.wide_rows.proofs.index.Index.place.Goals as goal

pub returns : goal.returns
returns c = λ rows count h.
    let x = c.args.self.now in
    let at : c.min.result ≡ min (place_above c.args.stamp x.oldest) count = c.min.ensures ∙ ap (λ k. min k x.len) c.place_above.ensures ∙ ap (min (place_above c.args.stamp x.oldest)) h.len in
    subst (λ (k : ℕ). IsPlace c.args.stamp x rows count (k - 1)) (sym at) (place_is x rows count h c.args.stamp (omega (arith, h.len, c.requires.some)) c.requires.first)
