-- A short number, digit by digit.
use Rattle.std.proofs.Common.{refl, ◌≡◌, ℕ, ◌+◌, ◌/◌, ◌%◌, ◌<◌, ◌≤◌, ◌++◌, [], ◌∷◌, sym, ap, ◌∙◌, arith, decimal}
use Rattle.std.specs.Str.{IsUtf8}
use Rattle.std.proofs.lemmas.Fmt.{IsAscii-decimal, decimal_digit, decimal_step}
use Rattle.std.proofs.lemmas.Str.{IsUtf8-from_ascii}

pub utf8-decimal : (n : ℕ) → n < 1000 → IsUtf8 (decimal n)
utf8-decimal n h = IsUtf8-from_ascii (decimal n) (IsAscii-decimal n (omega arith))

pub one_digit : (n d : ℕ) → n < 10 → d ≡ 48 + n → decimal n ≡ d ∷ []
one_digit n d h e = decimal_digit n h ∙ ap (λ x. x ∷ []) (sym e)

pub two_digits : (n tens ones : ℕ) → 10 ≤ n → n < 100 → tens ≡ 48 + n / 10 → ones ≡ 48 + n % 10 → decimal n ≡ tens ∷ ones ∷ []
two_digits n tens ones low high t o =
    let first : decimal (n / 10) ≡ (48 + n / 10) ∷ [] = decimal_digit (n / 10) (omega arith) in
    decimal_step n low (omega arith) ∙ ap (λ ds. ds ++ ((48 + n % 10) ∷ [])) first ∙ rw (← t, ← o) refl

pub three_digits : (n hundreds tens ones : ℕ) → 100 ≤ n → n < 1000 → hundreds ≡ 48 + n / 10 / 10 → tens ≡ 48 + n / 10 % 10 → ones ≡ 48 + n % 10 → decimal n ≡ hundreds ∷ tens ∷ ones ∷ []
three_digits n hundreds tens ones low high h t o =
    let front : decimal (n / 10) ≡ hundreds ∷ tens ∷ [] = two_digits (n / 10) hundreds tens (omega arith) (omega arith) h t in
    decimal_step n (omega arith) (omega arith) ∙ ap (λ ds. ds ++ ((48 + n % 10) ∷ [])) front ∙ rw (← o) refl
