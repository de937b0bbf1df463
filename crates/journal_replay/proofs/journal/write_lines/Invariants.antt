use Rattle.std.proofs.Common.{◌≡◌, ◌++◌, false, take}
use Rattle.journal_replay.specs.Journal.{entry_lines}
use Rattle.byte_devices.specs.Output.{Fronts}
use Rattle.journal_replay.proofs.journal.write_lines.Given as goal

-- what was written and what waits are the lines so far
abbrev pub invariant-loop-index : goal.invariant-loop-index
invariant-loop-index g l =
    (g.W.Sink.failed l.sink ≡ false)
    × Fronts (g.W.Sink.taken l.initial.sink) (g.W.Sink.taken l.sink) l.waiting.items (l.initial.waiting.items ++ entry_lines l.levels (take l.index l.entries))
