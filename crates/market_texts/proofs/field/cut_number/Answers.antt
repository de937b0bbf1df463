use Rattle.std.proofs.Common.{◌∙◌, ap, sym}
use Rattle.market_texts.specs.Cuts.{follows}
use Rattle.market_texts.specs.Reading.{number}
use Rattle.market_texts.proofs.Cuts.{cut_none, cut_on, cut_some}
use Rattle.market_texts.proofs.field.cut_number.Goals as goal

pub returns-in_err-number : goal.returns-in_err-number
unfolding number
returns-in_err-number c = rw c.from_residual.ensures (cut_none c.args.text.now (sym c.in_err-number.ensures.number))

pub returns-in_err-more : goal.returns-in_err-more
returns-in_err-more c = rw c.from_residual-in_err-more.ensures (cut_on c.args.text.now (c.in_err-more.ensures ∙ ap follows c.in_ok-number.ensures.rest))

pub returns : goal.returns
unfolding number
returns c =
    cut_some c.args.text.now c.in_ok-number.number c.in_ok-more.more (sym c.in_ok-number.ensures.number) (c.in_ok-more.ensures ∙ ap follows c.in_ok-number.ensures.rest)
