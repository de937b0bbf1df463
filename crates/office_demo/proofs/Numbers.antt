-- What `parse` reads is the number that the word spells.
use Rattle.std.specs.Str.{all_ascii_digits}
use Rattle.std.specs.Str.Parse.{ParsesUnsigned, digits_value, without_leading_plus}
use Rattle.std.specs.Result.{result_ok}
use Rattle.std.proofs.Common.{◌≡◌, ℕ, ◌^◌, ◌&&◌, Bool, true, nat_lt, List, length, Some, None, Result, Ok, Err, cond, ◌==◌, ◌||◌, ap, sym, ◌∙◌}
use Rattle.std.proofs.lemmas.Bool.{and_from, and_parts, cond-true, cond-false, false_from_ne_true, lt-ltb, ltb-true}
use Rattle.std.proofs.lemmas.Str.Parse.{IsNumeralModel, numerals_by_value, tells_all_ascii_digits}
use Rattle.demo_callers.specs.Records.{most_callers}
use Rattle.demo_callers.specs.declared.forever.Record.{Record}
use Rattle.office_demo.specs.declared.choice.Choice.TheVariants.{Work, Forever, Unknown}
use Rattle.office_demo.specs.Choices.{Word, number_of, work_by, work_of, forever_by, forever_of}

digits : IsNumeralModel (λ ds. all_ascii_digits ds ≡ true) (digits_value 10)
digits = numerals_by_value _ tells_all_ascii_digits

abbrev is_number : ℕ → List ℕ → Bool
is_number bits ds = nat_lt 0 (length ds) && all_ascii_digits ds && nat_lt (digits_value 10 ds) (2 ^ bits)

pub parsed : {E : Type 0} (bits : ℕ) (word : List ℕ) (r : Result ℕ E) → ParsesUnsigned bits 10 word r → result_ok r ≡ number_of bits word
parsed bits word (Ok n) h =
    let ds = without_leading_plus word in
    let digit = and_from (nat_lt 0 (length ds)) (all_ascii_digits ds) (lt-ltb 0 (length ds) h.0.0.0) (digits.from ds h.0.0.1) in
    let some = and_from (nat_lt 0 (length ds) && all_ascii_digits ds) (nat_lt (digits_value 10 ds) (2 ^ bits)) digit (lt-ltb (digits_value 10 ds) (2 ^ bits) h.0.1) in
    ap Some h.1 ∙ sym (cond-true (is_number bits ds) (Some (digits_value 10 ds)) None some)
parsed bits word (Err e) h =
    let ds = without_leading_plus word in
    let none = false_from_ne_true (is_number bits ds) (λ all.
    let fits = and_parts (nat_lt 0 (length ds) && all_ascii_digits ds) (nat_lt (digits_value 10 ds) (2 ^ bits)) all in
    let digit = and_parts (nat_lt 0 (length ds)) (all_ascii_digits ds) fits.0 in
    h ((ltb-true 0 (length ds) digit.0, digits.to ds digit.1), ltb-true (digits_value 10 ds) (2 ^ bits) fits.1)) in
    sym (cond-false (is_number bits ds) (Some (digits_value 10 ds)) None none)

pub work_of_numbers : (callers calls : Word) (n k : ℕ) → number_of 8 callers ≡ Some n → number_of 32 calls ≡ Some k → work_of callers calls ≡ cond (n == 0 || nat_lt 64 n) Unknown (Work n k)
work_of_numbers callers calls n k a b = ap (λ m. work_by m (number_of 32 calls)) a ∙ ap (work_by (Some n)) b

pub work_of_no_callers : (callers calls : Word) → number_of 8 callers ≡ None → work_of callers calls ≡ Unknown
work_of_no_callers callers calls a = ap (λ m. work_by m (number_of 32 calls)) a

pub work_of_no_calls : (callers calls : Word) (n : ℕ) → number_of 8 callers ≡ Some n → number_of 32 calls ≡ None → work_of callers calls ≡ Unknown
work_of_no_calls callers calls n a b = ap (λ m. work_by m (number_of 32 calls)) a ∙ ap (work_by (Some n)) b

pub forever_of_numbers : (seconds callers : Word) (r : Record) (n k : ℕ) → number_of 8 callers ≡ Some n → number_of 32 seconds ≡ Some k
    → forever_of seconds callers r ≡ cond (n == 0 || nat_lt (most_callers r) n) Unknown (Forever n k r)
forever_of_numbers seconds callers r n k a b = ap (λ m. forever_by r m (number_of 32 seconds)) a ∙ ap (forever_by r (Some n)) b

pub forever_of_no_callers : (seconds callers : Word) (r : Record) → number_of 8 callers ≡ None → forever_of seconds callers r ≡ Unknown
forever_of_no_callers seconds callers r a = ap (λ m. forever_by r m (number_of 32 seconds)) a

pub forever_of_no_seconds : (seconds callers : Word) (r : Record) (n : ℕ) → number_of 8 callers ≡ Some n → number_of 32 seconds ≡ None → forever_of seconds callers r ≡ Unknown
forever_of_no_seconds seconds callers r n a b = ap (λ m. forever_by r m (number_of 32 seconds)) a ∙ ap (forever_by r (Some n)) b
