-- What stands inside of a string, byte by byte and escape by escape.
use Rattle.std.specs.Prelude.{nat_lt}
use Rattle.std.specs.Char.{IsDigitOf, digit_value, encode_utf8}
use Rattle.std.proofs.Common.{◌≡◌, ◌<◌, ◌+◌, ◌*◌, ◌-◌, ℕ, inl, inr, Bool, true, false, cond, eqb, ltb, List, [], ◌∷◌, ◌++◌, length, append-nil, append_assoc, take, drop, subst, Option, Some, None, option_and_then, refl, sym, ap, ◌∙◌, arith}
use Rattle.std.proofs.lemmas.Bool.{and_parts, lt-ltb, lt-leb, ne_eqb}
use Rattle.std.proofs.lemmas.Bool.Decides.{nat_tests}
use Rattle.std.proofs.lemmas.List.{take-append-drop, take_rest}
use Rattle.std.proofs.lemmas.Str.{IsUtf8-append}
use Rattle.json.specs.Text.{content, plain, after_high, prepend, code_unit, is_high_surrogate, is_low_surrogate}
use Rattle.json.specs.Word.{is_operator, is_space}
use Rattle.json.specs.Lex.{Lexeme, Mode, token, operator, space, other, in_string, lex, lex_byte, string_token}
use Rattle.json.specs.Token.{string}
use Rattle.json.proofs.Printed.Utf8.{IsUtf8-are_ascii}
use Rattle.journal_replay.specs.Cuts.{IsCut, IsInside}
use Rattle.journal_replay.specs.Plain.{are_plain, is_plain}

-- ---- one after the other

prepend-none : (o : Option (List ℕ)) → o ≡ prepend [] o
prepend-none None = refl
prepend-none (Some s) = refl

prepend-then : (x y : List ℕ) (o : Option (List ℕ)) → prepend x (prepend y o) ≡ prepend (x ++ y) o
prepend-then x y None = refl
prepend-then x y (Some s) = ap (λ t. Some t) (sym (append_assoc x y s))

pub inside-none : (text : List ℕ) → IsInside text text []
inside-none text = record { reads = prepend-none (content plain text); lexed = refl; utf8 = λ u. u; within = omega arith }

pub inside-then : (a b c x y : List ℕ) → IsInside a b x → IsInside b c y → IsInside a c (x ++ y)
inside-then a b c x y p q = record {
  reads = p.reads ∙ ap (prepend x) q.reads ∙ prepend-then x y (content plain c);
  lexed = p.lexed ∙ q.lexed;
  utf8 = λ u. p.utf8 (q.utf8 u);
  within = omega (arith, p.within, q.within);
}

-- ---- a plain text

-- a byte that is no quote and no backslash is passed over
stays : (o s : Bool) (x : ℕ) (rest : List ℕ) (k : Mode → List Lexeme) → lex_byte in_string (cond o operator (cond s space other)) x rest k ≡ k in_string
stays true s x rest k = refl
stays false true x rest k = refl
stays false false x rest k = refl

passed : (x : ℕ) (rest : List ℕ) → eqb x 34 ≡ false → eqb x 92 ≡ false → lex in_string (x ∷ rest) ≡ lex in_string rest
unfolding lex
passed x rest q b = rw (q, b) (stays (is_operator x) (is_space x) x rest (λ m. lex m rest))

plain-tests : (x : ℕ) → is_plain x ≡ true → (eqb x 34 ≡ false) × (eqb x 92 ≡ false) × (nat_lt x 32 ≡ false) × (nat_lt x 128 ≡ true)
plain-tests x h = (grind (arith, nat_tests), grind (arith, nat_tests), grind (arith, nat_tests), grind (arith, nat_tests))

inside-byte : (x : ℕ) (rest : List ℕ) → is_plain x ≡ true → IsInside (x ∷ rest) rest (x ∷ [])
unfolding content
inside-byte x rest h =
    let t = plain-tests x h in
    record {
      reads = rw (t.0, t.1, t.2) refl;
      lexed = passed x rest t.0 t.1;
      utf8 = λ u. IsUtf8-append (x ∷ []) rest (IsUtf8-are_ascii (x ∷ []) (rw t.3 refl)) u;
      within = omega arith;
    }

pub inside-plain : (text tail : List ℕ) → are_plain text ≡ true → IsInside (text ++ tail) tail text
inside-plain [] tail h = inside-none tail
inside-plain (x ∷ text) tail h =
    let p = and_parts (is_plain x) (are_plain text) h in
    inside-then (x ∷ (text ++ tail)) (text ++ tail) tail (x ∷ []) text (inside-byte x (text ++ tail) p.0) (inside-plain text tail p.1)

-- one that was put behind what was found, and a byte behind it
pub inside-more : (inside rest behind tail held : List ℕ) (at n : ℕ) → IsInside (inside ++ tail) (rest ++ tail) held → are_plain (take at rest) ≡ true → IsInside (take (length rest - at) (drop at rest) ++ tail) (behind ++ tail) (n ∷ [])
    → IsInside (inside ++ tail) (behind ++ tail) ((held ++ take at rest) ++ n ∷ [])
inside-more inside rest behind tail held at n p clean q =
    let front : List ℕ = take at rest in
    let left : List ℕ = drop at rest ++ tail in
    let whole : front ++ left ≡ rest ++ tail = sym (append_assoc front (drop at rest) tail) ∙ ap (λ xs. xs ++ tail) (take-append-drop at rest) in
    inside-then (inside ++ tail) left (behind ++ tail) (held ++ front) (n ∷ [])
    (inside-then (inside ++ tail) (rest ++ tail) left held front p (subst (λ xs. IsInside xs left front) whole (inside-plain front left clean)))
    (subst (λ xs. IsInside (xs ++ tail) (behind ++ tail) (n ∷ [])) (take_rest rest at) q)

-- ---- an escape of a byte of ASCII

-- a hex digit is no quote and no backslash, and of ASCII
hex : (x d : ℕ) → IsDigitOf x d → d < 16 → (eqb x 34 ≡ false) × (eqb x 92 ≡ false) × (ltb x 128 ≡ true)
hex x d (inl h) l = (ne_eqb x 34 (λ e. absurd (omega arith)), ne_eqb x 92 (λ e. absurd (omega arith)), lt-ltb x 128 (omega arith))
hex x d (inr (inl h)) l = (ne_eqb x 34 (λ e. absurd (omega arith)), ne_eqb x 92 (λ e. absurd (omega arith)), lt-ltb x 128 (omega arith))
hex x d (inr (inr h)) l = (ne_eqb x 34 (λ e. absurd (omega arith)), ne_eqb x 92 (λ e. absurd (omega arith)), lt-ltb x 128 (omega arith))

unit : (high low n : ℕ) → digit_value high < 16 → digit_value low < 16 → n ≡ digit_value high * 16 + digit_value low → code_unit 48 48 high low ≡ Some n
unfolding code_unit
unit high low n h l is = rw (lt-ltb (digit_value high) 16 h, lt-ltb (digit_value low) 16 l) (ap (λ m. Some m) (omega arith))

alone : (n : ℕ) (rest : List ℕ) → n < 128 → cond (is_high_surrogate n) (content (after_high n) rest) (cond (is_low_surrogate n) None (prepend (encode_utf8 n) (content plain rest))) ≡ prepend (n ∷ []) (content plain rest)
unfolding encode_utf8
alone n rest h = rw (lt-leb 0xd800 n (omega arith), lt-leb 0xdc00 n (omega arith), lt-ltb n 128 h) refl

pub inside-escape : (high low h l : ℕ) (rest : List ℕ) → (digit_value high < 16) × (h ≡ digit_value high) → (digit_value low < 16) × (l ≡ digit_value low) → IsDigitOf high h → IsDigitOf low l → h < 8
    → IsInside (92 ∷ 117 ∷ 48 ∷ 48 ∷ high ∷ low ∷ rest) rest ((h * 16 + l) ∷ [])
unfolding content lex
inside-escape high low h l rest hs ls his lis small =
    let n : ℕ = h * 16 + l in
    let p = hex high h his (omega arith) in
    let q = hex low l lis (omega (arith, ls.0, ls.1)) in
    record {
      reads = ap (λ u. option_and_then (λ m. cond (is_high_surrogate m) (content (after_high m) rest) (cond (is_low_surrogate m) None (prepend (encode_utf8 m) (content plain rest)))) u) (unit high low n hs.0 ls.0 (omega (arith, hs.1, ls.1)))
          ∙ alone n rest (omega (arith, ls.0, ls.1));
      lexed = passed high (low ∷ rest) p.0 p.1 ∙ passed low rest q.0 q.1;
      utf8 = λ u. IsUtf8-append (92 ∷ 117 ∷ 48 ∷ 48 ∷ high ∷ low ∷ []) rest (IsUtf8-are_ascii (92 ∷ 117 ∷ 48 ∷ 48 ∷ high ∷ low ∷ []) (rw (p.2, q.2) refl)) u;
      within = omega arith;
    }

-- ---- a string

pub cut-string : (text rest found : List ℕ) → IsInside text (34 ∷ rest) found → IsCut (34 ∷ text) rest (token (string found) ∷ [])
unfolding content lex
cut-string text rest found p =
    let reads : content plain text ≡ Some found = p.reads ∙ ap (λ t. Some t) (append-nil found) in
    record {
      lexed = ap (λ c. token (string_token c) ∷ lex in_string text) reads ∙ ap (λ ls. token (string found) ∷ ls) p.lexed;
      utf8 = λ u. IsUtf8-append (34 ∷ []) text (IsUtf8-are_ascii (34 ∷ []) refl) (p.utf8 (IsUtf8-append (34 ∷ []) rest (IsUtf8-are_ascii (34 ∷ []) refl) u));
      within = omega (arith, p.within);
    }
