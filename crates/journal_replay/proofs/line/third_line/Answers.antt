use Rattle.std.proofs.Common.{rules, append_assoc}
use Rattle.serde_json.proofs.OnLiterals.{serde_json_on_literals}
use Rattle.journal_replay.proofs.line.third_line.Goals as goal

pub returns : goal.returns
unfolding serde_json_on_literals
returns c = search (rules, append_assoc)
