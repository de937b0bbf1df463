use Rattle.std.proofs.Common.{length}
use Rattle.journal_replay.specs.Members.{members_of}
use Rattle.journal_replay.proofs.CutLines.{IsCutTo}
use Rattle.journal_replay.proofs.cutter.cut_line.Given as goal

abbrev pub invariant-loop-next : goal.invariant-loop-next
invariant-loop-next l = IsCutTo l.line l.rest (members_of l.fields)

abbrev pub decreases-loop-next : goal.decreases-loop-next
decreases-loop-next l = length l.rest
