use Rattle.std.proofs.Common.{subst}
use Rattle.std.specs.Str.{IsUtf8}
use Rattle.market_texts.proofs.Digits.{three_digits, utf8-decimal}
use Rattle.market_texts.proofs.writing.push_long.Goals as goal

pub push_few-requires : goal.push_few-requires
push_few-requires c =
    subst IsUtf8 (three_digits c.args.number c.digit.result c.digit-then-number-lt1000.result c.digit-then-number-lt1000-2.result c.requires c.if-number-lt1000.true c.digit.ensures c.digit-then-number-lt1000.ensures c.digit-then-number-lt1000-2.ensures)
    (utf8-decimal c.args.number c.if-number-lt1000.true)

pub returns-then-number-lt1000-clause-ok : goal.returns-then-number-lt1000-clause-ok
returns-then-number-lt1000-clause-ok c =
    rw (three_digits c.args.number c.digit.result c.digit-then-number-lt1000.result c.digit-then-number-lt1000-2.result c.requires c.if-number-lt1000.true c.digit.ensures c.digit-then-number-lt1000.ensures c.digit-then-number-lt1000-2.ensures)
    c.push_few.ensures.ok
