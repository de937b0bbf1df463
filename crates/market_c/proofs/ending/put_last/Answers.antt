use Rattle.std.proofs.Common.{rules}
use Rattle.market_c.proofs.ending.put_last.Goals as goal

pub returns-clause-part : goal.returns-clause-part
returns-clause-part c =
    (c.last_part-part.result, record { ends = search rules; kept = search rules; whole = search rules; text = search rules; from = search rules; calls = search rules })
