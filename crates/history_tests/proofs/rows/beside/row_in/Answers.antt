use Rattle.history_tests.proofs.Seen.{if-there}
use Rattle.history_tests.proofs.rows.beside.row_in.Goals as goal

pub returns : goal.returns
returns c = if-there c.args.tree.now c.args.index c.walk.result.0 c.len-rows.ensures.newest_first c.walk.ensures.exact
