use Rattle.std.proofs.Common.{arith}
use Rattle.wide_rows.proofs.OfStoreys.{next_is}
use Rattle.wide_rows.proofs.index.Index.push.Goals as goal

pub returns-clause-rows : goal.returns-clause-rows
returns-clause-rows c = λ rows count h e. rw c.one_bit.ensures (next_is c.args.self.now rows count h c.args.entry e (omega (arith, h.len, c.requires.room)))
