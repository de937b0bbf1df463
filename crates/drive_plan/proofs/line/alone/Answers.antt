use Rattle.std.proofs.Common.{refl}
use Rattle.market_texts.proofs.Cuts.{text_fields}
use Rattle.drive_plan.proofs.line.alone.Goals as goal

pub returns-in-Some-clause-exact : goal.returns-in-Some-clause-exact
returns-in-Some-clause-exact c = rw (c.in-Some.is, text_fields c.in-Some.field-0.now) refl
