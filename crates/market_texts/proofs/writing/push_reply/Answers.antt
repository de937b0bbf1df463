use Rattle.market_texts.proofs.Written.{utf8_grows}
use Rattle.market_texts.proofs.writing.push_reply.Goals as goal

pub returns-else-is_err-clause-utf8 : goal.returns-else-is_err-clause-utf8
returns-else-is_err-clause-utf8 c = utf8_grows c.push_reply_text-pushed.ensures.grows
