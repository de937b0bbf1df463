use Rattle.std.proofs.Common.{◌+◌, ◌∙◌, sym}
use Rattle.market_texts.proofs.Numbers.{of_none, of_part, of_whole}
use Rattle.market_texts.proofs.field.read_number_to.Goals as goal

pub returns-in_err-number-clause-exact : goal.returns-in_err-number-clause-exact
returns-in_err-number-clause-exact c = c.from_residual.ensures ∙ of_none (c.args.most + 1) c.args.field.now c.in_err-number.ensures.number

pub returns-then-not-is_empty-clause-exact : goal.returns-then-not-is_empty-clause-exact
returns-then-not-is_empty-clause-exact c = of_part (c.args.most + 1) c.args.field.now c.in_ok-number.rest.now c.in_ok-number.ensures.rest (sym c.if-not-is_empty.ensures)

pub returns-clause-exact : goal.returns-clause-exact
returns-clause-exact c = c.in_ok-number.ensures.number ∙ of_whole (c.args.most + 1) c.args.field.now c.in_ok-number.rest.now c.in_ok-number.ensures.rest (sym c.if-not-is_empty.ensures)
