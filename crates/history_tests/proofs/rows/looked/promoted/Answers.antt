use Rattle.std.proofs.Common.{◌<◌, arith}
use Rattle.market_types.specs.declared.row.Row.{Row}
use Rattle.history_tests.proofs.Seen.{all-without}
use Rattle.history_tests.proofs.rows.looked.promoted.Goals as goal

pub promote-requires-clause-newest : goal.promote-requires-clause-newest
promote-requires-clause-newest g c =
    all-without (λ (row : Row). row.stamp < c.args.newest) c.args.levels.now c.args.from c.args.to c.in-Some.row.stamp
    (omega (arith, c.requires.from, c.len-rows.ensures.eight))
    (c.is_newest.ensures c.holds.ensures)
