use Rattle.std.proofs.Common.{length, []}
use Rattle.journal_replay.specs.Cuts.{IsCut}
use Rattle.journal_replay.proofs.cutter.skip_spaces.Given as goal

-- what was passed over so far
abbrev pub invariant-loop-more : goal.invariant-loop-more
invariant-loop-more l = IsCut l.text l.rest []

abbrev pub invariant-loop-more-2 : goal.invariant-loop-more-2
invariant-loop-more-2 l = IsCut l.text l.rest []

abbrev pub decreases-loop-more : goal.decreases-loop-more
decreases-loop-more l = length l.rest

abbrev pub decreases-loop-more-2 : goal.decreases-loop-more-2
decreases-loop-more-2 l = length l.rest
