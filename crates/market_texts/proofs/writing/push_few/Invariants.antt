use Rattle.std.proofs.Common.{◌≡◌, ◌+◌, ◌-◌, ◌≤◌, ◌++◌, drop}
use Rattle.market_texts.proofs.writing.push_few.Given as goal

abbrev pub invariant-loop-byte : goal.invariant-loop-byte
invariant-loop-byte l = record {
  written : l.out.items ++ drop l.byte-index l.bytes ≡ l.initial.out.items ++ l.bytes;
  room : l.out.len + (l.byte-index-end - l.byte-index) ≤ l.out.cap;
}
