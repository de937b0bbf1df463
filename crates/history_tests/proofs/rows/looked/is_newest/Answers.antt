use Rattle.std.proofs.Common.{◌∙◌, [], sym, arith}
use Rattle.std.proofs.lemmas.Bool.{ltb-true}
use Rattle.std.proofs.lemmas.List.Elements.{All-get_or}
use Rattle.market_types.specs.Rows.{IsNewestFirst}
use Rattle.wide_rows.specs.Leveled.{rows_at}
use Rattle.history_tests.proofs.Seen.{first-older}
use Rattle.history_tests.proofs.rows.looked.is_newest.Goals as goal

pub returns : goal.returns
returns c older =
    let rows = rows_at c.args.level c.args.levels.now in
    first-older c.args.stamp rows c.in-Some.newest
    (All-get_or IsNewestFirst c.args.levels.now c.args.level [] (omega (arith, c.requires.level, c.len-rows.ensures.eight)) c.len-rows.ensures.newest_first)
    (sym c.walk.ensures.exact ∙ c.in-Some.is)
    (ltb-true c.in-Some.newest.stamp c.args.stamp older)
