use Rattle.std.proofs.Common.{◌≡◌, ◌+◌, ◌∷◌, ◌∙◌, List, ℕ, ap, arith, drop, inl, inr, length, refl, sym, Some}
use Rattle.std.specs.Char.{digit_value}
use Rattle.std.proofs.lemmas.Str.{digit_value_digit}
use Rattle.market_texts.specs.Fields.{behind_digits, front_digits}
use Rattle.market_texts.specs.Reading.{number_below}
use Rattle.market_texts.proofs.Numbers.{are_front, behind_first, is_read, too_large, value-grows, value_first, zero_first}
use Rattle.market_texts.proofs.field.cut_digits.Goals as goal

pub returns-in_err-first-clause-number : goal.returns-in_err-first-clause-number
returns-in_err-first-clause-number c =
    let byte = c.in_ok-byte.byte.now in
    let more = c.in_ok-byte.more.now in
    let begins : byte ∷ more ≡ c.args.text.now = sym c.in_ok-byte.ensures.cases.0 in
    let digit = digit_value_digit byte c.if-not-is_ascii_digit.ensures.cases in
    let value = value_first byte (digit_value byte) more (sym c.if-not-is_ascii_digit.ensures.value) refl in
    rw c.from_residual-in_err-first.ensures (
    too_large (c.args.most + 1) (front_digits (byte ∷ more)) (omega (arith, digit, c.from.ensures, c.in_err-first.ensures, value, value-grows (digit_value byte) (front_digits more)))
    ∙ ap (λ (text : List ℕ). number_below (c.args.most + 1) (front_digits text)) begins)

pub returns-in_err-number-clause-number : goal.returns-in_err-number-clause-number
returns-in_err-number-clause-number c =
    let byte = c.in_ok-byte.byte.now in
    let more = c.in_ok-byte.more.now in
    let begins : byte ∷ more ≡ c.args.text.now = sym c.in_ok-byte.ensures.cases.0 in
    let digit = digit_value_digit byte c.if-not-is_ascii_digit.ensures.cases in
    let value = value_first byte c.in_ok-first.first more (sym c.if-not-is_ascii_digit.ensures.value) (omega (arith, digit, c.from.ensures, c.in_ok-first.ensures.1)) in
    rw c.from_residual-in_err-number.ensures (
    too_large (c.args.most + 1) (front_digits (byte ∷ more)) (omega (arith, value, c.in_err-number.ensures.number))
    ∙ ap (λ (text : List ℕ). number_below (c.args.most + 1) (front_digits text)) begins)

pub returns-then-count-gt0-clause-number : goal.returns-then-count-gt0-clause-number
returns-then-count-gt0-clause-number c =
    let byte = c.in_ok-byte.byte.now in
    let more = c.in_ok-byte.more.now in
    let begins : byte ∷ more ≡ c.args.text.now = sym c.in_ok-byte.ensures.cases.0 in
    let digit = digit_value_digit byte c.if-not-is_ascii_digit.ensures.cases in
    zero_first (c.args.most + 1) byte more (sym c.if-not-is_ascii_digit.ensures.value) (omega (arith, digit, c.from.ensures, c.in_ok-first.ensures.1, c.if-first-eq0.true))
    (omega (arith, c.if-count-gt0.true, c.in_ok-number.ensures.count))
    ∙ ap (λ (text : List ℕ). number_below (c.args.most + 1) (front_digits text)) begins

pub split_at-requires : goal.split_at-requires
split_at-requires c = omega (arith, (are_front c.in_ok-byte.more.now).within, c.in_ok-number.ensures.count)

pub returns-clause-number : goal.returns-clause-number
returns-clause-number c =
    let byte = c.in_ok-byte.byte.now in
    let more = c.in_ok-byte.more.now in
    let begins : byte ∷ more ≡ c.args.text.now = sym c.in_ok-byte.ensures.cases.0 in
    let is = sym c.if-not-is_ascii_digit.ensures.value in
    let digit = digit_value_digit byte c.if-not-is_ascii_digit.ensures.cases in
    let value = value_first byte c.in_ok-first.first more is (omega (arith, digit, c.from.ensures, c.in_ok-first.ensures.1)) in
    let alone : byte ≡ 48 → length (front_digits more) ≡ 0 = λ e. elim c.else-first-eq0.either [
      | inl h ↦ omega (arith, h.1, c.in_ok-number.ensures.count)
      | inr h ↦ absurd (h (omega (arith, e, digit, c.from.ensures, c.in_ok-first.ensures.1)))
    ] in
    ap (λ n. Some n) (c.in_ok-number.ensures.number.1 ∙ sym value) ∙ is_read (c.args.most + 1) byte more is alone (omega (arith, value, c.in_ok-number.ensures.number.0))
    ∙ ap (λ (text : List ℕ). number_below (c.args.most + 1) (front_digits text)) begins

pub returns-clause-rest : goal.returns-clause-rest
returns-clause-rest c =
    let byte = c.in_ok-byte.byte.now in
    let more = c.in_ok-byte.more.now in
    let begins : byte ∷ more ≡ c.args.text.now = sym c.in_ok-byte.ensures.cases.0 in
    c.split_at.ensures.back ∙ ap (λ n. drop n more) c.in_ok-number.ensures.count ∙ (are_front more).left
    ∙ sym (behind_first byte more (sym c.if-not-is_ascii_digit.ensures.value)).1 ∙ ap behind_digits begins
