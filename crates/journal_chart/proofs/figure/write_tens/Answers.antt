use Rattle.std.proofs.Common.{◌/◌, arith}
use Rattle.journal_chart.proofs.Texts.{digits-more, digits-one, last-digit}
use Rattle.journal_chart.proofs.figure.write_tens.Goals as goal

pub write_digit-requires-clause-room : goal.write_digit-requires-clause-room
write_digit-requires-clause-room c = omega (arith, digits-one c.args.number (omega (arith, c.if-number-lt10.true)), c.requires.room)

pub returns-then-number-lt10-clause-room : goal.returns-then-number-lt10-clause-room
returns-then-number-lt10-clause-room c = omega (arith, digits-one c.args.number (omega (arith, c.if-number-lt10.true)), c.write_digit.ensures.room)

pub write_digit-requires-2-clause-room : goal.write_digit-requires-2-clause-room
write_digit-requires-2-clause-room c =
    omega (arith, digits-more c.args.number (omega (arith, c.if-number-lt10.false)) c.ranges.number.fits, c.requires.room)

pub write_digit-requires-3-clause-room : goal.write_digit-requires-3-clause-room
write_digit-requires-3-clause-room c =
    omega (
      arith,
      digits-more c.args.number (omega (arith, c.if-number-lt10.false)) c.ranges.number.fits,
      digits-one (c.args.number / 10) (omega (arith, c.requires.small)),
      c.requires.room,
      c.write_digit-2.ensures.room,
    )

pub returns-clause-text : goal.returns-clause-text
returns-clause-text c =
    last-digit c.args.number _ _ _ (omega (arith, c.if-number-lt10.false)) c.ranges.number.fits c.write_digit-2.ensures.text c.write_digit-3.ensures.text

pub returns-clause-room : goal.returns-clause-room
returns-clause-room c =
    omega (
      arith,
      digits-more c.args.number (omega (arith, c.if-number-lt10.false)) c.ranges.number.fits,
      digits-one (c.args.number / 10) (omega (arith, c.requires.small)),
      c.write_digit-2.ensures.room,
      c.write_digit-3.ensures.room,
    )
