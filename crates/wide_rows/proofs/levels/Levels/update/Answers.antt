use Rattle.std.proofs.Common.{arith}
use Rattle.wide_rows.proofs.EightLevels.{newest-set}
use Rattle.wide_rows.proofs.levels.Levels.update.Goals as goal

pub returns-clause-newest_first : goal.returns-clause-newest_first
returns-clause-newest_first c = newest-set c.self.inside.levels c.args.level _ (omega (arith, c.self.invariant.eight, c.requires.level)) c.update.ensures.sound
