use Rattle.std.proofs.Common.{◌≡◌, take}
use Rattle.demo_callers.specs.Notes.{notes_of}
use Rattle.demo_callers.proofs.note.Notes.agree.Given as goal

abbrev pub invariant-loop-index : goal.invariant-loop-index
invariant-loop-index l = l.text.items ≡ notes_of l.seat (take l.index l.chronicle.log)
