use Rattle.wide_rows.proofs.Lanes.{pushed_at, pushed_tidy}
use Rattle.wide_rows.proofs.columns.Columns.push.Goals as goal

pub returns-clause-tidy : goal.returns-clause-tidy
returns-clause-tidy c = rw (c.one_bit.ensures, c.get.ensures) (pushed_tidy c.args.self.now c.args.row.now c.requires.tidy c.requires.room)

pub returns-clause-rows : goal.returns-clause-rows
returns-clause-rows c = rw (c.one_bit.ensures, c.get.ensures) (pushed_at c.args.self.now c.args.row.now c.requires.tidy c.requires.room)
