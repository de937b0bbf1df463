use Rattle.std.proofs.Common.{◌∙◌, sym}
use Rattle.journal_replay.proofs.Json.{count-members}
use Rattle.journal_replay.proofs.reading.member_count.Goals as goal

pub returns-in-Some : goal.returns-in-Some
returns-in-Some c = rw (← c.in-Some.ensures) (c.len.ensures.len ∙ sym (count-members c.in-Some.map.now.entries))
