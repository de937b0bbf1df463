use Rattle.std.proofs.Common.{◌≡◌, ◌+◌, ◌*◌, drop, get_or, length, sym, ap, ◌∙◌, refl, arith}
use Rattle.std.specs.Char.{digit_value}
use Rattle.std.proofs.lemmas.Str.{digit_value_digit}
use Rattle.market_texts.specs.Fields.{front_digits}
use Rattle.market_texts.proofs.Numbers.{all_read, digit_at, no_digit_at, no_more, step, value-grows}
use Rattle.market_texts.proofs.field.read_digits.Goals as goal

pub returns-in_err-number-clause-number : goal.returns-in_err-number-clause-number
returns-in_err-number-clause-number c =
    let text = c.args.text.now in
    let at = c.loop-at.at in
    let n = c.loop-at.number in
    let digit = digit_value_digit (get_or text at 0) c.if-not-is_ascii_digit.ensures.cases in
    let next = n * 10 + digit_value (get_or text at 0) in
    let value = step at n next text (digit_at at text c.loop-at-test.true (sym c.if-not-is_ascii_digit.ensures.value)) refl in
    rw c.from_residual.ensures (λ fits. c.in_err-number.ensures (omega (arith, fits, digit, c.from.ensures, value, c.loop-at.invariant.value, value-grows next (front_digits (drop (at + 1) text)))))

pub loop-at-preserved : goal.loop-at-preserved
loop-at-preserved c =
    let text = c.args.text.now in
    let at = c.loop-at.at in
    let digit = digit_value_digit (get_or text at 0) c.if-not-is_ascii_digit.ensures.cases in
    let first = digit_at at text c.loop-at-test.true (sym c.if-not-is_ascii_digit.ensures.value) in
    let next : c.in_ok-number.number ≡ c.loop-at.number * 10 + digit_value (get_or text at 0) = omega (arith, digit, c.from.ensures, c.in_ok-number.ensures.1) in
    record {
      value = sym (step at c.loop-at.number c.in_ok-number.number text first next) ∙ c.loop-at.invariant.value;
      count = omega (arith, ap length first, c.loop-at.invariant.count);
      within = omega (arith, c.in_ok-number.ensures.0, c.in_ok-number.ensures.1);
    }

pub returns-then-not-is_ascii_digit : goal.returns-then-not-is_ascii_digit
returns-then-not-is_ascii_digit c =
    let i = c.loop-at.invariant in
    let end = no_digit_at c.loop-at.at c.args.text.now c.loop-at-test.true (sym c.if-not-is_ascii_digit.ensures.value) in
    let value = all_read c.args.first c.loop-at.at c.loop-at.number c.args.text.now end i.value in
    record { number = (omega (arith, value, i.within), value); count = omega (arith, ap length end, i.count) }

pub returns : goal.returns
returns c =
    let i = c.loop-at.invariant in
    let end = no_more c.loop-at.at c.args.text.now c.loop-at-test.false in
    let value = all_read c.args.first c.loop-at.at c.loop-at.number c.args.text.now end i.value in
    record { number = (omega (arith, value, i.within), value); count = omega (arith, ap length end, i.count, c.loop-at-test.false, c.loop-at.auto.at-end) }
