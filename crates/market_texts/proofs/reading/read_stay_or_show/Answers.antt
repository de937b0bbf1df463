use Rattle.market_texts.proofs.Letters.{no_stay_or_show}
use Rattle.market_texts.proofs.reading.read_stay_or_show.Goals as goal

pub returns-in_err-after_word : goal.returns-in_err-after_word
returns-in_err-after_word c =
    λ levels. rw c.from_residual.ensures (no_stay_or_show c.args.text.now c.requires c.in_default.ensures.none c.in_err-after_word.ensures.none levels)
