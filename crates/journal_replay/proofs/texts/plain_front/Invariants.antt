use Rattle.std.proofs.Common.{◌≡◌, ◌≤◌, ◌+◌, ◌-◌, true, take, length}
use Rattle.journal_replay.specs.Plain.{are_plain}
use Rattle.journal_replay.proofs.texts.plain_front.Given as goal

abbrev pub invariant-loop-count : goal.invariant-loop-count
invariant-loop-count l = (l.count ≤ length l.text) × (are_plain (take l.count l.text) ≡ true)

abbrev pub decreases-loop-count : goal.decreases-loop-count
decreases-loop-count l = length l.text + 1 - l.count

abbrev pub invariant-loop-count-2 : goal.invariant-loop-count-2
invariant-loop-count-2 l = (l.count ≤ length l.text) × (are_plain (take l.count l.text) ≡ true)

abbrev pub decreases-loop-count-2 : goal.decreases-loop-count-2
decreases-loop-count-2 l = length l.text - l.count
