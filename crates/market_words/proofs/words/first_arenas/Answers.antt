use Rattle.std.proofs.Common.{rules}
use Rattle.market_words.proofs.Spelling.{first-more}
use Rattle.market_words.proofs.words.first_arenas.Goals as goal

pub loop-index-preserved : goal.loop-index-preserved
loop-index-preserved c = first-more c.loop-index.index _ _ c.loop-index.invariant (search rules)
