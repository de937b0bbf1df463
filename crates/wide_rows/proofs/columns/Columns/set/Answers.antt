use Rattle.wide_rows.proofs.Lanes.{set_at, set_tidy}
use Rattle.wide_rows.proofs.columns.Columns.set.Goals as goal

pub returns-clause-tidy : goal.returns-clause-tidy
returns-clause-tidy c = rw c.one_bit.ensures (set_tidy c.args.self.now c.args.place c.args.request c.args.mandated c.requires.tidy c.requires.there)

pub returns-clause-rows : goal.returns-clause-rows
returns-clause-rows c = rw c.one_bit.ensures (set_at c.args.self.now c.args.place c.args.request c.args.mandated c.requires.tidy c.requires.there)
