use Rattle.wide_rows.proofs.OfStoreys.{changed_is}
use Rattle.wide_rows.proofs.index.Index.change.Goals as goal

pub returns-clause-rows : goal.returns-clause-rows
returns-clause-rows c = λ rows now count h e is. rw c.one_bit.ensures (changed_is c.args.self.now rows count h now c.args.place c.args.change c.args.mandated e is)
