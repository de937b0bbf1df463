-- What is written of a journal reads back as what it was written of.
use Rattle.std.specs.Prelude.{IsUtf8}
use Rattle.std.proofs.Common.{◌≡◌, ◌<◌, ◌≤◌, ◌^◌, ◌++◌, ℕ, Bool, true, false, cond, List, [], codes, decimal, Option, Some, option_and_then, append-nil, refl, sym, ap, ◌∙◌, arith, rules}
use Rattle.json.specs.Token.{Token}
use Rattle.json.specs.Lex.{tokens}
use Rattle.json.specs.Print.{print}
use Rattle.json.specs.Json as json
use Rattle.json.specs.Tree.{json_tokens, depth, HasNumbers}
use Rattle.json.proofs.Printed.Decimals.{IsNumber-decimal}
use Rattle.json.proofs.Printed.Tokens.{tokens-print}
use Rattle.json.proofs.Printed.Trees.{value-json_tokens, ArePrintable-json_tokens}
use Rattle.json.proofs.Printed.Utf8.{are_ascii, IsUtf8-are_ascii}
use Rattle.serde_json.specs.Data.{Data}
use Rattle.serde_json.specs.Read.{read, of_json, max_depth}
use Rattle.serde_json.proofs.Numbers.{number_of-decimal}
use Rattle.serde_json.proofs.OnLiterals.{serde_json_on_literals}
use Rattle.journal_replay.specs.declared.header.Header.{Header}
use Rattle.journal_replay.specs.Journal.{fits_second, second_data, third_data, header_data, second_line, third_line, header_line}
use Rattle.journal_replay.specs.Reading.{json_of}
use Rattle.journal_replay.proofs.Json.{json-read}
use Rattle.journal_replay.proofs.PlainTexts.{ascii-append, ascii-plain}
use Rattle.journal_replay.proofs.PlainWritten.{plain-decimal}

abbrev whole : Option (json.Json × List Token) → Option Data
whole o = option_and_then of_json (option_and_then (λ p. json.if_last p.0 p.1) o)

-- a text that is what is printed of this JSON
json-back : (j : json.Json) (d : Data) (text : List ℕ) → print (json_tokens j) ≡ text → IsUtf8 text → HasNumbers j → depth j ≤ max_depth → of_json j ≡ Some d → json_of text ≡ Some d
json-back j d text is utf8 numbers shallow same =
    let ts : List Token = json_tokens j in
    let lexed : tokens (print ts) ≡ ts ++ [] = tokens-print ts (ArePrintable-json_tokens j numbers) ∙ sym (append-nil ts) in
    json-read text utf8 ∙ ap read (sym is) ∙ ap whole (ap (json.value max_depth) lexed ∙ value-json_tokens j max_depth [] shallow) ∙ same

-- ---- headers

-- a number and what follows it
number-then : (n : ℕ) (rest : List ℕ) → are_ascii rest ≡ true → are_ascii (decimal n ++ rest) ≡ true
number-then n rest h = ascii-append (decimal n) rest (ascii-plain (decimal n) (plain-decimal n)) h

-- a header whose numbers are in their ranges
pub record IsInRanges (h : Header) : Type 0 where
  pub base : (1 ≤ h.opening.base) × (h.opening.base ≤ 65536)
  pub hard : (1 ≤ h.opening.hard) × (h.opening.hard ≤ 65535)
  pub seats : (1 ≤ h.opening.seats) × (h.opening.seats ≤ 64)
  pub levels : (1 ≤ h.opening.levels) × (h.opening.levels ≤ 8)
  pub last : (1 ≤ h.opening.last) × (h.opening.last ≤ 4294967294)

abbrev second-json : Header → json.Json
second-json h =
    json.object (json.member (codes "base") (json.number (decimal h.opening.base))
    (json.member (codes "hard") (json.number (decimal h.opening.hard))
    (json.member (codes "journal") (json.number (decimal 2))
    (json.member (codes "levels") (json.number (decimal h.opening.levels))
    (json.member (codes "seats") (json.number (decimal h.opening.seats)) json.no_members)))))

abbrev third-json : Header → json.Json
third-json h =
    json.object (json.member (codes "base") (json.number (decimal h.opening.base))
    (json.member (codes "hard") (json.number (decimal h.opening.hard))
    (json.member (codes "journal") (json.number (decimal 3))
    (json.member (codes "last") (json.number (decimal h.opening.last))
    (json.member (codes "levels") (json.number (decimal h.opening.levels))
    (json.member (codes "seats") (json.number (decimal h.opening.seats)) json.no_members))))))

second-printed : (h : Header) → print (json_tokens (second-json h)) ≡ second_line h
unfolding serde_json_on_literals
second-printed h = search rules

third-printed : (h : Header) → print (json_tokens (third-json h)) ≡ third_line h
unfolding serde_json_on_literals
third-printed h = search rules

-- the numbers of a header fit 64 bits
record Fits64 (h : Header) : Type 0 where
  pub base : h.opening.base < 2 ^ 64
  pub hard : h.opening.hard < 2 ^ 64
  pub seats : h.opening.seats < 2 ^ 64
  pub levels : h.opening.levels < 2 ^ 64
  pub last : h.opening.last < 2 ^ 64

fits64 : (h : Header) → IsInRanges h → Fits64 h
fits64 h r = record {
  base = omega (arith, r.base.1);
  hard = omega (arith, r.hard.1);
  seats = omega (arith, r.seats.1);
  levels = omega (arith, r.levels.1);
  last = omega (arith, r.last.1);
}

second-as_data : (h : Header) → Fits64 h → of_json (second-json h) ≡ Some (second_data h)
unfolding serde_json_on_literals
second-as_data h f =
    rw (number_of-decimal h.opening.base f.base, number_of-decimal h.opening.hard f.hard, number_of-decimal 2 (omega arith), number_of-decimal h.opening.levels f.levels, number_of-decimal h.opening.seats f.seats) refl

third-as_data : (h : Header) → Fits64 h → of_json (third-json h) ≡ Some (third_data h)
unfolding serde_json_on_literals
third-as_data h f =
    rw (number_of-decimal h.opening.base f.base, number_of-decimal h.opening.hard f.hard, number_of-decimal 3 (omega arith), number_of-decimal h.opening.last f.last, number_of-decimal h.opening.levels f.levels, number_of-decimal h.opening.seats f.seats)
    refl

second-back : (h : Header) → Fits64 h → json_of (second_line h) ≡ Some (second_data h)
second-back h f =
    let ascii : are_ascii (second_line h) ≡ true = number-then h.opening.base _ (number-then h.opening.hard _ (number-then 2 _ (number-then h.opening.levels _ (number-then h.opening.seats (codes "}") refl)))) in
    json-back (second-json h) (second_data h) (second_line h) (second-printed h) (IsUtf8-are_ascii (second_line h) ascii)
    (IsNumber-decimal h.opening.base f.base, (IsNumber-decimal h.opening.hard f.hard, (IsNumber-decimal 2 (omega arith), (IsNumber-decimal h.opening.levels f.levels, (IsNumber-decimal h.opening.seats f.seats, tt)))))
    (omega arith) (second-as_data h f)

third-back : (h : Header) → Fits64 h → json_of (third_line h) ≡ Some (third_data h)
third-back h f =
    let ascii : are_ascii (third_line h) ≡ true = number-then h.opening.base _ (number-then h.opening.hard _ (number-then 3 _ (number-then h.opening.last _ (number-then h.opening.levels _ (number-then h.opening.seats (codes "}") refl))))) in
    json-back (third-json h) (third_data h) (third_line h) (third-printed h) (IsUtf8-are_ascii (third_line h) ascii)
    (IsNumber-decimal h.opening.base f.base, (IsNumber-decimal h.opening.hard f.hard, (IsNumber-decimal 3 (omega arith), (IsNumber-decimal h.opening.last f.last, (IsNumber-decimal h.opening.levels f.levels, (IsNumber-decimal h.opening.seats f.seats, tt))))))
    (omega arith) (third-as_data h f)

back-by : (b : Bool) (xs ys : List ℕ) (d e : Data) → json_of xs ≡ Some d → json_of ys ≡ Some e → json_of (cond b xs ys) ≡ Some (cond b d e)
back-by true xs ys d e p q = p
back-by false xs ys d e p q = q

pub header-back : (h : Header) → IsInRanges h → json_of (header_line h) ≡ Some (header_data h)
header-back h r =
    let f = fits64 h r in
    back-by (fits_second h) (second_line h) (third_line h) (second_data h) (third_data h) (second-back h f) (third-back h f)
