use Rattle.std.proofs.Common.{◌≡◌, ◌≤◌, ◌<◌, ◌-◌, ◌+◌, ◌^◌, [], length, false}
use Rattle.line_engine.proofs.Running.{Running}
use Rattle.line_engine.proofs.engine.take_pieces.Given as goal

abbrev pub invariant-loop-count : goal.invariant-loop-count
invariant-loop-count g l = record {
  running : Running g.A.LineTaker.rule g.A.LineTaker.LONGEST (g.A.LineTaker.state l.fn.lines.answering.taker) (g.A.LineTaker.state l.lines.answering.taker) (g.R.Source.left l.fn.source) (g.R.Source.left l.source) (g.W.Sink.taken l.fn.sink) (g.W.Sink.taken l.sink) l.lines.unfinished.items l.total;
  handed : l.lines.answering.replies.items ≡ [];
  few : g.A.LineTaker.count l.lines.answering.taker ≤ g.A.LineTaker.count l.fn.lines.answering.taker + l.total;
  within : l.total ≤ g.A.LineTaker.most_bytes (g.A.LineTaker.state l.lines.answering.taker);
  source_working : g.R.Source.failed l.source ≡ false;
  source_begins : g.R.Source.ended l.source ≡ false;
  sink_working : g.W.Sink.failed l.sink ≡ false;
  room : 0 < length l.buffer;
}

abbrev pub decreases-loop-count : goal.decreases-loop-count
decreases-loop-count g l = 2 ^ 63 - l.total
