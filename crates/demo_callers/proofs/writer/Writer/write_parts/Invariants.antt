use Rattle.std.specs.Io.KnownBytes.{Appends}
use Rattle.journal_replay.specs.Journal.{entry_lines}
use Rattle.market_lock.specs.Seen.{IsSamePass}
use Rattle.demo_callers.proofs.writer.Writer.write_parts.Given as goal

abbrev pub invariant-loop : goal.invariant-loop
invariant-loop g l = record {
  same : IsSamePass l.fn.scribe.pass l.scribe.pass;
  wrote : Appends (g.O.Sink.taken l.fn.self.output) (g.O.Sink.taken l.self.output) (entry_lines 3 l.scribe.written);
}
