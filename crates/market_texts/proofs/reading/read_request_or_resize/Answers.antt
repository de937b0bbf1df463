use Rattle.market_texts.proofs.Letters.{no_request_or_resize}
use Rattle.market_texts.proofs.reading.read_request_or_resize.Goals as goal

pub returns-in_err-after_word : goal.returns-in_err-after_word
returns-in_err-after_word c =
    λ levels. rw c.from_residual-in_err-after_word.ensures (no_request_or_resize c.args.text.now c.requires c.in_default.ensures.none c.in_err-after_word.ensures.none levels)
