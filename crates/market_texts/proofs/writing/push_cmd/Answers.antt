use Rattle.market_texts.proofs.Written.{utf8_grows}
use Rattle.market_texts.proofs.writing.push_cmd.Goals as goal

pub returns-else-is_err-clause-utf8 : goal.returns-else-is_err-clause-utf8
returns-else-is_err-clause-utf8 c = utf8_grows c.push_cmd_text-pushed.ensures.grows
