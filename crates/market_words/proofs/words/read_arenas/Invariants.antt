use Rattle.std.proofs.Common.{map, take}
use Rattle.market_words.specs.Words.{AreSpelled}
use Rattle.market_words.proofs.words.read_arenas.Given as goal

abbrev pub invariant-loop-word : goal.invariant-loop-word
invariant-loop-word l = AreSpelled (map (λ s. s.now) (take l.word-index l.words)) l.arenas.items
