use Rattle.std.proofs.Common.{◌∙◌, ap}
use Rattle.market_prog.specs.DriveTexts.{answer_lines}
use Rattle.market_prog.proofs.Driven.{outcome-written}
use Rattle.market_prog.proofs.drive.tell.Goals as goal

pub returns-in_ok-answer_text-in-Ok : goal.returns-in_ok-answer_text-in-Ok
returns-in_ok-answer_text-in-Ok g c =
    let driven = c.in-Ok.ensures.outcome in
    (driven.0, driven.1, c.in_ok-answer_text-in-Ok.ensures ∙ (ap answer_lines c.deref.ensures.value ∙ outcome-written driven.0.jobs c.in-Ok.answers.items driven.2))
