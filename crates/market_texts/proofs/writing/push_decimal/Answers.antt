use Rattle.std.proofs.Common.{arith, subst}
use Rattle.std.specs.Str.{IsUtf8}
use Rattle.market_texts.proofs.Digits.{one_digit, two_digits, utf8-decimal}
use Rattle.market_texts.proofs.writing.push_decimal.Goals as goal

pub push_few-requires : goal.push_few-requires
push_few-requires c =
    subst IsUtf8 (one_digit c.args.number c.digit.result c.if-number-lt10.true c.digit.ensures) (utf8-decimal c.args.number (omega arith))

pub returns-then-number-lt10-clause-ok : goal.returns-then-number-lt10-clause-ok
returns-then-number-lt10-clause-ok c =
    rw (one_digit c.args.number c.digit.result c.if-number-lt10.true c.digit.ensures) c.push_few.ensures.ok

pub push_few-requires-then-number-lt100 : goal.push_few-requires-then-number-lt100
push_few-requires-then-number-lt100 c =
    subst IsUtf8 (two_digits c.args.number c.digit-then-number-lt100.result c.digit-then-number-lt100-2.result c.if-number-lt10.false c.if-number-lt100.true c.digit-then-number-lt100.ensures c.digit-then-number-lt100-2.ensures)
    (utf8-decimal c.args.number (omega arith))

pub returns-then-number-lt100-clause-ok : goal.returns-then-number-lt100-clause-ok
returns-then-number-lt100-clause-ok c =
    rw (two_digits c.args.number c.digit-then-number-lt100.result c.digit-then-number-lt100-2.result c.if-number-lt10.false c.if-number-lt100.true c.digit-then-number-lt100.ensures c.digit-then-number-lt100-2.ensures)
    c.push_few-then-number-lt100.ensures.ok
