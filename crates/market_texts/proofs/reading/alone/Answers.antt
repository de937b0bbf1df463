use Rattle.std.proofs.Common.{refl}
use Rattle.market_texts.proofs.Cuts.{text_fields}
use Rattle.market_texts.proofs.reading.alone.Goals as goal

pub returns-in-Some : goal.returns-in-Some
returns-in-Some c = rw (c.in-Some.is, text_fields c.in-Some.field-0.now) refl
