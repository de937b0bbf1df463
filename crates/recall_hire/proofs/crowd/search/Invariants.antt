use Rattle.std.proofs.Common.{◌≡◌, take}
use Rattle.recall_hire.specs.Crowds.{size_at}
use Rattle.recall_hire.proofs.crowd.search.Given as goal

-- none of the crowds so far is at the arena
abbrev pub invariant-loop-index : goal.invariant-loop-index
invariant-loop-index l = size_at l.arena (take l.index l.crowds) ≡ 0
