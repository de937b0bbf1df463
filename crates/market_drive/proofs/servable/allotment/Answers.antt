use Rattle.std.proofs.Common.{◌∙◌, sym}
use Rattle.market_drive.proofs.Allotments.{allotment-seen, allotment-unseen}
use Rattle.market_drive.proofs.servable.allotment.Goals as goal

pub returns-in-Some : goal.returns-in-Some
returns-in-Some c = allotment-seen c.args.market.now c.args.arena c.in-Some.view (sym c.view.ensures.exact ∙ c.in-Some.is)

pub returns-in-None : goal.returns-in-None
returns-in-None c = sym (allotment-unseen c.args.market.now c.args.arena (sym c.view.ensures.exact ∙ c.in-None.is))
