use Rattle.market_texts.proofs.Letters.{no_close_or_control}
use Rattle.market_texts.proofs.reading.read_close_or_control.Goals as goal

pub returns-in_err-after_word : goal.returns-in_err-after_word
returns-in_err-after_word c =
    λ levels. rw c.from_residual-in_err-after_word.ensures (no_close_or_control c.args.text.now c.requires c.in_default.ensures.none c.in_err-after_word.ensures.none levels)
