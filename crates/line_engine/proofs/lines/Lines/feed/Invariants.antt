use Rattle.std.proofs.Common.{◌≡◌, ◌≤◌, ◌+◌, ◌<◌, ◌++◌, length, false}
use Rattle.line_engine.proofs.Feeding.{Feeding}
use Rattle.line_engine.proofs.lines.Lines.feed.Given as goal

abbrev pub invariant-loop-line : goal.invariant-loop-line
invariant-loop-line g l = record {
  feeding : Feeding g.A.LineTaker.rule g.A.LineTaker.LONGEST (g.A.LineTaker.state l.fn.self.answering.taker) (g.A.LineTaker.state l.self.answering.taker) (g.W.Sink.taken l.fn.sink) (g.W.Sink.taken l.sink) (l.fn.self.unfinished.items ++ l.piece) l.self.answering.replies.items l.self.unfinished.items l.rest;
  few : g.A.LineTaker.count l.self.answering.taker + length l.rest ≤ g.A.LineTaker.count l.fn.self.answering.taker + length l.piece;
  working : g.W.Sink.failed l.sink ≡ false;
  room : length l.self.answering.replies.items < 65536;
}

abbrev pub decreases-loop-line : goal.decreases-loop-line
decreases-loop-line g l = length l.rest
