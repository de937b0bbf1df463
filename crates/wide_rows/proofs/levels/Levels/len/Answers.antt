use Rattle.std.specs.Prelude.{All}
use Rattle.std.proofs.Common.{subst}
use Rattle.market_types.specs.Rows.{IsNewestFirst}
use Rattle.wide_rows.proofs.EightLevels.{newest-each}
use Rattle.wide_rows.proofs.levels.Levels.len.Goals as goal

pub returns-clause-newest_first : goal.returns-clause-newest_first
returns-clause-newest_first c = subst (All IsNewestFirst) c.self.view_is (newest-each c.self.inside.levels c.self.invariant.each)
