use Rattle.wide_rows.proofs.OfStoreys.{none_mandated, top_within, top_first}
use Rattle.wide_rows.proofs.index.Index.mandated.Goals as goal

pub returns-then-self-eq0 : goal.returns-then-self-eq0
returns-then-self-eq0 c = λ rows count h. none_mandated c.args.self.now rows count h c.if-self-eq0.true

pub returns : goal.returns
returns c = λ rows count h.
    (top_within c.args.self.now rows count h c.if-self-eq0.false, top_first c.args.self.now rows count h c.if-self-eq0.false)
