use Rattle.std.proofs.Common.{◌≡◌, ◌+◌, ◌≤◌, ◌/◌, ◌++◌, arith, ap, decimal, length, ◌∙◌}
use Rattle.journal_chart.specs.Pages.{Paged}
use Rattle.journal_chart.proofs.Texts.{digits-more, last-digit}
use Rattle.journal_chart.proofs.figure.+write_long.Goals as goal
use Rattle.journal_chart.proofs.figure.+write_long.Goals.{then-front-lt100, else-front-lt100}

pub write_tens-requires-clause-room : goal.write_tens-requires-clause-room
write_tens-requires-clause-room t c = omega (arith, digits-more c.args.number (omega (arith, c.requires.long)) c.ranges.number.fits, c.requires.room)

pub write_long-requires : goal.write_long-requires
write_long-requires t c = (
  omega (arith, c.requires.long, c.decreases),
  (omega (arith, c.if-front-lt100.false), omega (arith, digits-more c.args.number (omega (arith, c.requires.long)) c.ranges.number.fits, c.requires.room)),
)

pub write_digit-requires-clause-room : goal.write_digit-requires-clause-room
write_digit-requires-clause-room t c =
    let more = digits-more c.args.number (omega (arith, c.requires.long)) c.ranges.number.fits in
    let left : c.args.page.now.room ≤ c.if-front-lt100.page.room + length (decimal (c.args.number / 10)) =
    elim c.if-front-lt100.branch [
      | then-front-lt100 w ↦ omega (arith, ap (λ (p : Paged). p.room) w.page-is, w.write_tens.ensures.room)
      | else-front-lt100 w ↦ omega (arith, ap (λ (p : Paged). p.room) w.page-is, w.write_long.ensures.room)
    ] in
    omega (arith, more, left, c.requires.room)

pub returns-clause-text : goal.returns-clause-text
returns-clause-text t c =
    let front : c.if-front-lt100.page.text ≡ c.args.page.now.text ++ decimal (c.args.number / 10) =
    elim c.if-front-lt100.branch [
      | then-front-lt100 w ↦ ap (λ (p : Paged). p.text) w.page-is ∙ w.write_tens.ensures.text
      | else-front-lt100 w ↦ ap (λ (p : Paged). p.text) w.page-is ∙ w.write_long.ensures.text
    ] in
    last-digit c.args.number _ _ _ (omega (arith, c.requires.long)) c.ranges.number.fits front c.write_digit.ensures.text

pub returns-clause-room : goal.returns-clause-room
returns-clause-room t c =
    let more = digits-more c.args.number (omega (arith, c.requires.long)) c.ranges.number.fits in
    let left : c.args.page.now.room ≤ c.if-front-lt100.page.room + length (decimal (c.args.number / 10)) =
    elim c.if-front-lt100.branch [
      | then-front-lt100 w ↦ omega (arith, ap (λ (p : Paged). p.room) w.page-is, w.write_tens.ensures.room)
      | else-front-lt100 w ↦ omega (arith, ap (λ (p : Paged). p.room) w.page-is, w.write_long.ensures.room)
    ] in
    omega (arith, more, left, c.write_digit.ensures.room)
