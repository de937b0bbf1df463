use Rattle.std.proofs.Common.{◌≡◌, ◌<◌, ◌≤◌, ◌+◌, ◌-◌, vec_len, false}
use Rattle.std.specs.Io.KnownBytes.{Consumes}
use Rattle.line_engine.specs.Input.{longest_input}
use Rattle.line_engine.proofs.input.read_input.Given as goal

abbrev pub invariant-loop-input : goal.invariant-loop-input
invariant-loop-input g l = record {
  read : Consumes (g.R.Source.left l.fn.source) (g.R.Source.left l.source) l.input.items;
  within : vec_len l.input ≤ longest_input;
  room : 0 < vec_len l.buffer;
  working : g.R.Source.failed l.source ≡ false;
  begins : g.R.Source.ended l.source ≡ false;
}

abbrev pub decreases-loop-input : goal.decreases-loop-input
decreases-loop-input g l = longest_input + 1 - vec_len l.input
