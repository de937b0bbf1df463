-- The digits with which a text begins, and the number that they write.
use Rattle.std.proofs.Common.{drop, take, add-one, drop-cons, get_or, ◌≡◌, ℕ, ◌+◌, ◌*◌, ◌<◌, ◌≤◌, Bool, true, false, cond, eqb, List, [], ◌∷◌, length, Option, Some, None, sym, ap, ◌∙◌, refl, arith, ◌&&◌}
use Rattle.std.specs.Prelude.{nat_lt}
use Rattle.std.specs.Char.{is_ascii_digit, digit_value}
use Rattle.std.specs.Str.{all_ascii_digits}
use Rattle.std.specs.Str.Parse.{digits_value, digits_value_after}
use Rattle.std.proofs.lemmas.Bool.{lt-ltb, le-ltb, eqb-true, and_right}
use Rattle.std.proofs.lemmas.Bool.Decides.{nat_tests}
use Rattle.std.proofs.Math.ListN.{drop_of_length-le}
use Rattle.market_texts.specs.Fields.{behind_digits, front_digits}
use Rattle.market_texts.specs.Reading.{is_plain, number_below}

-- ---- digit by digit

pub digit_at : (i : ℕ) (text : List ℕ) → i < length text → is_ascii_digit (get_or text i 0) ≡ true → front_digits (drop i text) ≡ get_or text i 0 ∷ front_digits (drop (i + 1) text)
digit_at i text l digit = rw (add-one, drop-cons text i 0, digit) refl

pub no_digit_at : (i : ℕ) (text : List ℕ) → i < length text → is_ascii_digit (get_or text i 0) ≡ false → front_digits (drop i text) ≡ []
no_digit_at i text l digit = rw (drop-cons text i 0, digit) refl

pub no_more : (i : ℕ) (text : List ℕ) → length text ≤ i → front_digits (drop i text) ≡ []
no_more i text l = ap front_digits (drop_of_length-le text l)

pub value-grows : (n : ℕ) (cs : List ℕ) → n ≤ digits_value_after 10 n cs
value-grows n [] = omega arith
value-grows n (c ∷ cs) = omega (arith, value-grows (n * 10 + digit_value c) cs)

pub step : (i n next : ℕ) (text : List ℕ) → front_digits (drop i text) ≡ get_or text i 0 ∷ front_digits (drop (i + 1) text) → next ≡ n * 10 + digit_value (get_or text i 0)
    → digits_value_after 10 n (front_digits (drop i text)) ≡ digits_value_after 10 next (front_digits (drop (i + 1) text))
step i n next text first is = ap (digits_value_after 10 n) first ∙ ap (λ m. digits_value_after 10 m (front_digits (drop (i + 1) text))) (sym is)

pub all_read : (first i n : ℕ) (text : List ℕ) → front_digits (drop i text) ≡ [] → digits_value_after 10 n (front_digits (drop i text)) ≡ digits_value_after 10 first (front_digits text) → n ≡ digits_value_after 10 first (front_digits text)
all_read first i n text end value = ap (digits_value_after 10 n) (sym end) ∙ value

-- ---- the digits, and what follows them

-- what is so of the digits with which a text begins, and of what follows them
pub record AreFront (text front behind : List ℕ) : Type 0 where
  pub digits : all_ascii_digits front ≡ true
  pub within : length front ≤ length text
  pub taken : take (length front) text ≡ front
  pub left : drop (length front) text ≡ behind
  pub whole : [] ≡ behind → front ≡ text
  pub part : (x : ℕ) (xs : List ℕ) → x ∷ xs ≡ behind → all_ascii_digits text ≡ false

front-by : (digit : Bool) (b : ℕ) (text front behind : List ℕ) → is_ascii_digit b ≡ digit → AreFront text front behind → AreFront (b ∷ text) (cond digit (b ∷ front) []) (cond digit behind (b ∷ text))
front-by true b text front behind is h = record {
  digits = rw (is, h.digits) refl;
  within = omega (arith, h.within);
  taken = ap (λ xs. b ∷ xs) h.taken;
  left = h.left;
  whole = λ e. ap (λ xs. b ∷ xs) (h.whole e);
  part = λ x xs e. rw (is, h.part x xs e) refl;
}
front-by false b text front behind is h = record { digits = refl; within = omega arith; taken = refl; left = refl; whole = λ e. absurd (cc); part = λ x xs e. rw is refl }

pub are_front : (text : List ℕ) → AreFront text (front_digits text) (behind_digits text)
are_front [] = record { digits = refl; within = omega arith; taken = refl; left = refl; whole = λ e. refl; part = λ x xs e. absurd (cc) }
are_front (b ∷ text) = front-by (is_ascii_digit b) b text (front_digits text) (behind_digits text) refl (are_front text)

-- ---- the number that they write

pub no_digits : (bound : ℕ) (field : List ℕ) → all_ascii_digits field ≡ false → None ≡ number_below bound field
no_digits bound field h = rw h refl

pub not_plain : (bound : ℕ) (field : List ℕ) → is_plain field ≡ false → None ≡ number_below bound field
not_plain bound field h = rw (and_right (all_ascii_digits field) (is_plain field) h) refl

too_large-by : (is : Bool) (n bound : ℕ) → bound ≤ n → None ≡ cond {A = Option ℕ} (is && nat_lt n bound) (Some n) None
too_large-by true n bound h = rw (le-ltb n bound h) refl
too_large-by false n bound h = refl

pub too_large : (bound : ℕ) (field : List ℕ) → bound ≤ digits_value 10 field → None ≡ number_below bound field
too_large bound field h = too_large-by (all_ascii_digits field && is_plain field) (digits_value 10 field) bound h

-- behind a first digit
pub behind_first : (b : ℕ) (text : List ℕ) → is_ascii_digit b ≡ true → (front_digits (b ∷ text) ≡ b ∷ front_digits text) × (behind_digits (b ∷ text) ≡ behind_digits text)
behind_first b text is = (rw is refl, rw is refl)

pub value_first : (b first : ℕ) (text : List ℕ) → is_ascii_digit b ≡ true → first ≡ digit_value b → digits_value 10 (front_digits (b ∷ text)) ≡ digits_value_after 10 first (front_digits text)
value_first b first text is e =
    ap (digits_value 10) (behind_first b text is).0 ∙ ap (λ n. digits_value_after 10 n (front_digits text)) (omega (arith, e))

plain_first : (b : ℕ) (cs : List ℕ) → (b ≡ 48 → length cs ≡ 0) → is_plain (b ∷ cs) ≡ true
plain_first b cs h = grind (arith, nat_tests)

needless_zero : (b : ℕ) (cs : List ℕ) → b ≡ 48 → 0 < length cs → is_plain (b ∷ cs) ≡ false
needless_zero b cs e h = grind (arith, nat_tests)

pub zero_first : (bound b : ℕ) (text : List ℕ) → is_ascii_digit b ≡ true → b ≡ 48 → 0 < length (front_digits text) → None ≡ number_below bound (front_digits (b ∷ text))
zero_first bound b text is e h = rw (behind_first b text is).0 (not_plain bound (b ∷ front_digits text) (needless_zero b (front_digits text) e h))

pub is_read : (bound b : ℕ) (text : List ℕ) → is_ascii_digit b ≡ true → (b ≡ 48 → length (front_digits text) ≡ 0) → digits_value 10 (front_digits (b ∷ text)) < bound → Some (digits_value 10 (front_digits (b ∷ text))) ≡ number_below bound (front_digits (b ∷ text))
is_read bound b text is zero small =
    let plain : is_plain (front_digits (b ∷ text)) ≡ true = rw (behind_first b text is).0 (plain_first b (front_digits text) zero) in
    rw ((are_front (b ∷ text)).digits, plain, lt-ltb (digits_value 10 (front_digits (b ∷ text))) bound small) refl

-- ---- a whole field

none-by : (bound : ℕ) (field rest : List ℕ) → rest ≡ behind_digits field → None ≡ number_below bound (front_digits field) → None ≡ number_below bound field
none-by bound field [] is h = h ∙ ap (number_below bound) ((are_front field).whole is)
none-by bound field (x ∷ xs) is h = no_digits bound field ((are_front field).part x xs is)

pub of_none : (bound : ℕ) (field : List ℕ) → None ≡ number_below bound (front_digits field) → None ≡ number_below bound field
of_none bound field h = none-by bound field (behind_digits field) refl h

pub of_whole : (bound : ℕ) (field rest : List ℕ) → rest ≡ behind_digits field → eqb (length rest) 0 ≡ true → number_below bound (front_digits field) ≡ number_below bound field
of_whole bound field [] is h = ap (number_below bound) ((are_front field).whole is)
of_whole bound field (x ∷ xs) is h = absurd (omega (arith, eqb-true (length (x ∷ xs)) 0 h))

pub of_part : (bound : ℕ) (field rest : List ℕ) → rest ≡ behind_digits field → eqb (length rest) 0 ≡ false → None ≡ number_below bound field
of_part bound field [] is h = absurd (cc)
of_part bound field (x ∷ xs) is h = no_digits bound field ((are_front field).part x xs is)
