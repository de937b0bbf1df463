use Rattle.std.proofs.Common.{◌≡◌, ◌++◌, drop}
use Rattle.market_types.specs.Corrections.{counts_to}
use Rattle.market_texts.specs.Texts.{counts_text}
use Rattle.market_texts.specs.Written.{Extends, counts_left}
use Rattle.market_texts.proofs.writing.push_counts.Given as goal

abbrev pub invariant-loop-arena : goal.invariant-loop-arena
invariant-loop-arena l = record {
  left : l.out.items ++ counts_left l.begun (counts_to l.correction (drop l.arena-index l.arenas)) ≡ l.initial.out.items ++ counts_text (counts_to l.correction l.arenas);
  kept : Extends l.initial.out.items l.out.items;
}
