use Rattle.market_texts.proofs.Written.{utf8_grows}
use Rattle.market_texts.proofs.writing.push_number.Goals as goal

pub returns-clause-utf8 : goal.returns-clause-utf8
returns-clause-utf8 c = utf8_grows c.push_decimal.ensures.grows
