use Rattle.std.proofs.Common.{arith}
use Rattle.wide_rows.proofs.Vectors.{place_none, place_some}
use Rattle.wide_rows.proofs.search.place_above.Goals as goal

pub returns-then-bits-eq0 : goal.returns-then-bits-eq0
returns-then-bits-eq0 c = place_none c.args.stamp c.args.keys.now (omega arith) c.if-bits-eq0.true

pub returns-else-bits-eq0 : goal.returns-else-bits-eq0
returns-else-bits-eq0 c = place_some c.args.stamp c.args.keys.now (omega arith) c.if-bits-eq0.false
