use Rattle.market_core.proofs.Moved.{same_seats, steps}
use Rattle.journal_replay.proofs.Legal.{found-legal, legal-found}
use Rattle.journal_replay.proofs.law.legal_journals_tell_legal_histories.Goals as goal

pub returns-clause-found : goal.returns-clause-found
returns-clause-found c = found-legal (λ s seat cmd. (same_seats s seat cmd, (steps s seat cmd).levels))

pub returns-clause-legal : goal.returns-clause-legal
returns-clause-legal c = legal-found (λ s seat cmd. (same_seats s seat cmd, (steps s seat cmd).levels))
