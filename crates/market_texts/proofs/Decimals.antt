-- A number has one spelling, and no space in it.
use Rattle.std.proofs.Common.{zero, suc, ◌≡◌, ℕ, ◌<◌, ◌≤◌, ◌^◌, ◌++◌, ◌⊎◌, inl, inr, Bool, true, false, not, ◌&&◌, ◌||◌, eqb, ltb, leb, cond, List, [], ◌∷◌, length, slice_index, Some, option_and_then, sym, ap, ◌∙◌, refl, subst, arith, codes, decimal}
use Rattle.std.specs.Prelude.{ℤ, pos, negsuc, FitsSigned}
use Rattle.std.specs.Int.{w32}
use Rattle.std.specs.Fmt.{signed_decimal}
use Rattle.std.specs.Str.{all_ascii_digits}
use Rattle.std.specs.Str.Parse.{AllDigits, digits_value}
use Rattle.std.specs.List.{All, slice_split}
use Rattle.std.proofs.lemmas.Bool.{lt-ltb, ltb-true, le-leb, leb-true, eqb-true, cases_eq, ne_eqb, and_parts}
use Rattle.std.proofs.lemmas.Bool.Decides.{nat_tests}
use Rattle.std.proofs.lemmas.Option.{cond_some, option_and_then_some}
use Rattle.std.proofs.lemmas.List.Elements.{All-nil, All-cons}
use Rattle.std.proofs.lemmas.List.Splits.{slice_split_at, slice_split_none}
use Rattle.std.proofs.lemmas.Str.Parse.{IsNumeralModel, numerals_by_value, tells_all_ascii_digits, digit_from_value, digit_at}
use Rattle.std.proofs.lemmas.Fmt.{digits_decimal, digits_value-decimal, decimal_nonempty, first_decimal, decimal_digit, decimal-digits_value}
use Rattle.market_texts.specs.Reading.{is_plain, number, is_space, positive, negative, signed}

pub own : IsNumeralModel (λ ds. all_ascii_digits ds ≡ true) (digits_value 10)
own = numerals_by_value _ tells_all_ascii_digits

-- ---- a number's text is read

digit_no_space : (c : ℕ) (l : 48 ≤ c) → is_space c ≡ false
digit_no_space c l = grind (arith, nat_tests)

pub digits_no_space : (ds : List ℕ) → AllDigits 10 ds → All (λ x. is_space x ≡ false) ds
digits_no_space [] h = All-nil (λ x. is_space x ≡ false)
digits_no_space (c ∷ cs) h = All-cons (λ x. is_space x ≡ false) c cs (digit_no_space c (digit_from_value c h.0).0) (digits_no_space cs h.1)

decimal_digits : (n : ℕ) → n < 2 ^ 32 → AllDigits 10 (decimal n)
decimal_digits n h = own.to (decimal n) (digits_decimal own n (omega arith))

decimal_no_space : (n : ℕ) → n < 2 ^ 32 → All (λ x. is_space x ≡ false) (decimal n)
decimal_no_space n h = digits_no_space (decimal n) (decimal_digits n h)

-- at the end of a text
pub split-decimal : (n : ℕ) → n < 2 ^ 32 → slice_split is_space (decimal n) ≡ decimal n ∷ []
split-decimal n h = slice_split_none is_space (decimal n) (decimal_no_space n h)

-- before more of it
pub split-decimal_more : (n : ℕ) (more : List ℕ) → n < 2 ^ 32 → slice_split is_space (decimal n ++ (codes " " ++ more)) ≡ decimal n ∷ slice_split is_space more
split-decimal_more n more h = slice_split_at is_space (decimal n) 32 more (decimal_no_space n h) refl

plain_first : (n : ℕ) → n < 2 ^ 32 → (length (decimal n) ≡ 1) ⊎ (48 < slice_index (decimal n) 0)
plain_first n h = elim (cases_eq n 0) [
  | inl e ↦ inl (ap length (ap decimal e ∙ decimal_digit 0 (omega arith)))
  | inr e ↦ inr (first_decimal n (omega arith) (omega arith))
]

plain_by : (field : List ℕ) → 0 < length field → ((length field ≡ 1) ⊎ (48 < slice_index field 0)) → is_plain field ≡ true
plain_by field some (inl one) = grind (arith, nat_tests)
plain_by field some (inr first) = grind (arith, nat_tests)

pub number-decimal : (n : ℕ) → n < 2 ^ 32 → number (decimal n) ≡ Some n
unfolding number
number-decimal n h =
    let digits : all_ascii_digits (decimal n) ≡ true = digits_decimal own n (omega arith) in
    let plain : is_plain (decimal n) ≡ true = plain_by (decimal n) (decimal_nonempty n (omega arith)) (plain_first n h) in
    let value : digits_value 10 (decimal n) ≡ n = digits_value-decimal own n (omega arith) in
    rw (digits, plain, value, lt-ltb n (2 ^ 32) h) refl

-- ---- a field that reads as a number is its text

plain_zero : (len first : ℕ) → (eqb len 1 || not (eqb first 48)) ≡ true → first ≡ 48 → len ≡ 1
plain_zero len first h e = grind (arith, nat_tests)

pub number_only : (field : List ℕ) (n : ℕ) → number field ≡ Some n → (field ≡ decimal n) × (n < 2 ^ 32)
unfolding number
number_only field n h =
    let c = cond_some _ _ _ h in
    let both = and_parts _ _ c.0 in
    let small : digits_value 10 field < 2 ^ 32 = ltb-true _ _ both.1 in
    let parts = and_parts _ _ both.0 in
    let more = and_parts _ _ parts.1 in
    let text : decimal (digits_value 10 field) ≡ field =
    decimal-digits_value own field parts.0 (ltb-true _ _ more.0) (plain_zero _ _ more.1) (omega arith) in
    (sym text ∙ ap decimal c.1, rw (← c.1) small)

-- ---- signed numbers

pub first_no_minus : (n : ℕ) → n < 2 ^ 32 → eqb (slice_index (decimal n) 0) 45 ≡ false
first_no_minus n h = ne_eqb _ _ (λ e. absurd (omega (arith, e, (digit_at (decimal n) 0 (decimal_digits n h) (decimal_nonempty n (omega arith))).0)))

pub signed-signed_decimal : (z : ℤ) → FitsSigned w32 z → signed (signed_decimal z) ≡ Some z
unfolding signed
signed-signed_decimal (pos n) h = rw (first_no_minus n (omega arith), number-decimal n (omega arith), lt-ltb n (2 ^ 31) (omega arith)) refl
signed-signed_decimal (negsuc n) h = rw (number-decimal (suc n) (omega arith), lt-ltb 0 (suc n) (omega arith), le-leb (suc n) (2 ^ 31) (omega arith)) refl

minus_no_space : (n : ℕ) → n < 2 ^ 32 → All (λ x. is_space x ≡ false) (45 ∷ decimal n)
minus_no_space n h = All-cons (λ x. is_space x ≡ false) 45 (decimal n) refl (decimal_no_space n h)

signed_no_space : (z : ℤ) → FitsSigned w32 z → All (λ x. is_space x ≡ false) (signed_decimal z)
signed_no_space (pos n) h = decimal_no_space n (omega arith)
signed_no_space (negsuc n) h = minus_no_space (suc n) (omega arith)

pub split-signed : (z : ℤ) → FitsSigned w32 z → slice_split is_space (signed_decimal z) ≡ signed_decimal z ∷ []
split-signed z h = slice_split_none is_space (signed_decimal z) (signed_no_space z h)

pub split-signed_more : (z : ℤ) (more : List ℕ) → FitsSigned w32 z → slice_split is_space (signed_decimal z ++ (codes " " ++ more)) ≡ signed_decimal z ∷ slice_split is_space more
split-signed_more z more h = slice_split_at is_space (signed_decimal z) 32 more (signed_no_space z h) refl

abbrev IsSigned : List ℕ → ℤ → Type 0
IsSigned field z = (field ≡ signed_decimal z) × FitsSigned w32 z

positive_only : (n : ℕ) (z : ℤ) → positive n ≡ Some z → (pos n ≡ z) × (n < 2 ^ 31)
positive_only n z h = let c = cond_some _ _ _ h in (c.1, ltb-true _ _ c.0)

unsigned_only : (field : List ℕ) (z : ℤ) → option_and_then positive (number field) ≡ Some z → IsSigned field z
unsigned_only field z h =
    option_and_then_some positive (number field) z h (λ n e p.
    let m = positive_only n z p in
    let f = number_only field n e in
    subst (λ z. IsSigned field z) m.0 (f.0, record { sfits = m.1 }))

negative_only : (n : ℕ) (z : ℤ) → negative n ≡ Some z → (45 ∷ decimal n ≡ signed_decimal z) × FitsSigned w32 z
negative_only zero z h = absurd (cc)
negative_only (suc n) z h =
    let c = cond_some (ltb 0 (suc n) && leb (suc n) (2 ^ 31)) (negsuc n) z h in
    let small : suc n ≤ 2 ^ 31 = leb-true (suc n) (2 ^ 31) (and_parts (ltb 0 (suc n)) (leb (suc n) (2 ^ 31)) c.0).1 in
    subst (λ z. (45 ∷ decimal (suc n) ≡ signed_decimal z) × FitsSigned w32 z) c.1 (refl, record { sfits = omega arith })

minus_only : (field : List ℕ) (z : ℤ) → option_and_then negative (number field) ≡ Some z → IsSigned (45 ∷ field) z
minus_only field z h =
    option_and_then_some negative (number field) z h (λ n e p.
    let m = negative_only n z p in
    (ap (λ ds. 45 ∷ ds) (number_only field n e).0 ∙ m.0, m.1))

signed_by : (c : ℕ) (field : List ℕ) (z : ℤ) (b : Bool) → eqb c 45 ≡ b → cond b (option_and_then negative (number field)) (option_and_then positive (number (c ∷ field))) ≡ Some z → IsSigned (c ∷ field) z
signed_by c field z true e h = subst (λ x. IsSigned (x ∷ field) z) (sym (eqb-true c 45 e)) (minus_only field z h)
signed_by c field z false e h = unsigned_only (c ∷ field) z h

pub signed_only : (field : List ℕ) (z : ℤ) → signed field ≡ Some z → (field ≡ signed_decimal z) × FitsSigned w32 z
unfolding signed
signed_only [] z h = unsigned_only [] z h
signed_only (c ∷ field) z h = signed_by c field z (eqb c 45) refl h
