use Rattle.std.proofs.Common.{arith}
use Rattle.journal_chart.proofs.Texts.{digits-most}
use Rattle.journal_chart.proofs.figure.write_number.Goals as goal

pub write_tens-requires-clause-room : goal.write_tens-requires-clause-room
write_tens-requires-clause-room c = omega (arith, digits-most c.args.number c.ranges.number.fits, c.requires.room)

pub returns-then-number-lt100-clause-room : goal.returns-then-number-lt100-clause-room
returns-then-number-lt100-clause-room c = omega (arith, digits-most c.args.number c.ranges.number.fits, c.write_tens.ensures.room)

pub write_long-requires-clause-room : goal.write_long-requires-clause-room
write_long-requires-clause-room c = omega (arith, digits-most c.args.number c.ranges.number.fits, c.requires.room)

pub returns-clause-room : goal.returns-clause-room
returns-clause-room c = omega (arith, digits-most c.args.number c.ranges.number.fits, c.write_long.ensures.room)
