use Rattle.wide_rows.proofs.Lanes.{removed_at, removed_tidy}
use Rattle.wide_rows.proofs.columns.Columns.remove.Goals as goal

pub returns-clause-tidy : goal.returns-clause-tidy
returns-clause-tidy c =
    rw (c.without_lane-self.ensures, c.without_lane-self-2.ensures, c.without_lane-self-3.ensures)
    (removed_tidy c.args.self.now c.args.place c.requires.tidy c.requires.there)

pub returns-clause-rows : goal.returns-clause-rows
returns-clause-rows c =
    rw (c.without_lane-self.ensures, c.without_lane-self-2.ensures, c.without_lane-self-3.ensures)
    (removed_at c.args.self.now c.args.place c.requires.tidy c.requires.there)
