use Rattle.market_texts.proofs.Letters.{no_leave_lists_or_limit}
use Rattle.market_texts.proofs.reading.read_leave_lists_or_limit.Goals as goal

pub returns-in_err-after_word : goal.returns-in_err-after_word
returns-in_err-after_word c =
    λ levels. rw c.from_residual.ensures (no_leave_lists_or_limit c.args.text.now c.requires c.in_default.ensures.none c.in_default-after_word.ensures.none c.in_err-after_word.ensures.none levels)
