use Rattle.std.proofs.Common.{◌∙◌, sym}
use Rattle.std.proofs.lemmas.Bool.{ltb-true}
use Rattle.market_types.proofs.RowOrder.{absent_above}
use Rattle.history_tests.proofs.Seen.{first-older}
use Rattle.history_tests.proofs.rows.beside.is_new.Goals as goal

pub returns : goal.returns
returns c older =
    absent_above c.args.stamp c.args.tree.now
    (first-older c.args.stamp c.args.tree.now c.in-Some.newest c.len-rows.ensures.newest_first (sym c.walk-first.ensures.exact ∙ c.in-Some.is)
    (ltb-true c.in-Some.newest.stamp c.args.stamp older))
