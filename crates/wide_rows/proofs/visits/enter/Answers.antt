use Rattle.std.proofs.Common.{◌+◌, ap, arith}
use Rattle.wide_rows.proofs.Counted.{bits_counted}
use Rattle.wide_rows.proofs.visits.enter.Goals as goal

pub returns-clause-counted : goal.returns-clause-counted
returns-clause-counted c = ap (λ n. c.args.visits.now + n) (bits_counted c.args.keys (omega arith))
