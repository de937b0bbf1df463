use Rattle.std.proofs.Common.{ℕ, ◌≡◌, ◌≤◌, ◌++◌, List, length, take, true}
use Rattle.journal_replay.specs.Cuts.{IsInside}
use Rattle.journal_replay.specs.Plain.{are_plain}
use Rattle.journal_replay.proofs.texts.undo.Given as goal

-- what was put into the room so far, and what stands before the next escape
abbrev pub invariant-loop-at : goal.invariant-loop-at
invariant-loop-at l =
    ((tail : List ℕ) → IsInside (l.inside ++ tail) (l.rest ++ tail) l.room.items) × (l.at ≤ length l.rest) × (are_plain (take l.at l.rest) ≡ true)

abbrev pub decreases-loop-at : goal.decreases-loop-at
decreases-loop-at l = length l.rest
