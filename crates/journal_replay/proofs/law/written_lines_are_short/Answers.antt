use Rattle.journal_replay.proofs.Short.{short-history}
use Rattle.journal_replay.proofs.law.written_lines_are_short.Goals as goal

pub returns : goal.returns
returns c = short-history
