use Rattle.std.proofs.Common.{[], arith}
use Rattle.std.proofs.lemmas.List.Elements.{All-get_or}
use Rattle.market_types.specs.Rows.{IsNewestFirst}
use Rattle.wide_rows.specs.Leveled.{rows_at}
use Rattle.history_tests.proofs.Seen.{if-there}
use Rattle.history_tests.proofs.rows.looked.row_there.Goals as goal

pub returns : goal.returns
returns c =
    if-there (rows_at c.args.level c.args.levels.now) c.args.index c.walk.result
    (All-get_or IsNewestFirst c.args.levels.now c.args.level [] (omega (arith, c.requires.level, c.len-rows.ensures.eight)) c.len-rows.ensures.newest_first)
    c.walk.ensures.exact
