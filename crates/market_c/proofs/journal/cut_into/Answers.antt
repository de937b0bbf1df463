use Rattle.std.proofs.Common.{rules}
use Rattle.market_c.proofs.journal.cut_into.Goals as goal

pub returns-in-Made-Some-clause-done : goal.returns-in-Made-Some-clause-done
returns-in-Made-Some-clause-done c =
    (c.in-Made-Some.part, record { same = search rules; cut = search rules; legal = search rules; ends = search rules; text = search rules; from = search rules; calls = search rules })
