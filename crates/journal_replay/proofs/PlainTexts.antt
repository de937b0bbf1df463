-- Plain texts stand in a JSON string as they are.
use Rattle.std.specs.Prelude.{IfSome, MatchOption, nat_lt}
use Rattle.std.proofs.Common.{◌≡◌, ℕ, true, List, [], ◌∷◌, ◌++◌, codes, decimal, Option, Some, None, refl, ap, ◌∙◌, append_assoc, arith}
use Rattle.std.proofs.lemmas.Bool.{and_parts}
use Rattle.std.proofs.lemmas.Bool.Decides.{nat_tests}
use Rattle.json.specs.Print.{escape_byte, escape, quoted}
use Rattle.json.proofs.Printed.Utf8.{are_ascii}
use Rattle.journal_replay.specs.Plain.{is_plain, are_plain}
use Rattle.journal_replay.specs.Journal.{fields_line}

-- what a part of a text says where there is one
pub some-part : {X : Type 0} (A : Type 0) (P : X → Type 0) (r : Option X) → MatchOption r A P → IfSome r P
some-part A P None h = tt
some-part A P (Some x) h = h

escape-byte : (x : ℕ) → is_plain x ≡ true → escape_byte x ≡ x ∷ []
unfolding escape_byte
escape-byte x h = grind (arith, nat_tests)

pub escape-plain : (xs : List ℕ) → are_plain xs ≡ true → escape xs ≡ xs
escape-plain [] h = refl
escape-plain (x ∷ xs) h = let p = and_parts (is_plain x) (are_plain xs) h in ap (λ ys. ys ++ escape xs) (escape-byte x p.0) ∙ ap (λ ys. x ∷ ys) (escape-plain xs p.1)

ascii-byte : (x : ℕ) → is_plain x ≡ true → nat_lt x 128 ≡ true
ascii-byte x h = grind (arith, nat_tests)

pub ascii-plain : (xs : List ℕ) → are_plain xs ≡ true → are_ascii xs ≡ true
ascii-plain [] h = refl
ascii-plain (x ∷ xs) h = let p = and_parts (is_plain x) (are_plain xs) h in rw (ascii-byte x p.0) (ascii-plain xs p.1)

pub ascii-append : (xs ys : List ℕ) → are_ascii xs ≡ true → are_ascii ys ≡ true → are_ascii (xs ++ ys) ≡ true
ascii-append [] ys h k = k
ascii-append (x ∷ xs) ys h k = let p = and_parts (nat_lt x 128) (are_ascii xs) h in rw p.0 (ascii-append xs ys p.1 k)

pub quoted-plain : (xs : List ℕ) → are_plain xs ≡ true → quoted xs ≡ 34 ∷ (xs ++ 34 ∷ [])
quoted-plain xs h = ap (λ ys. 34 ∷ (ys ++ 34 ∷ [])) (escape-plain xs h)

quoted-then : (xs more : List ℕ) → are_plain xs ≡ true → quoted xs ++ more ≡ 34 ∷ (xs ++ 34 ∷ more)
quoted-then xs more h = ap (λ ys. ys ++ more) (quoted-plain xs h) ∙ ap (λ ys. 34 ∷ ys) (append_assoc xs (34 ∷ []) more)

-- a line of plain texts, its quotes beside the labels
pub fields-plain : (cmd reply : List ℕ) (seat : ℕ) → are_plain cmd ≡ true → are_plain reply ≡ true
    → fields_line cmd reply seat ≡ codes "{\"cmd\":\"" ++ (cmd ++ 34 ∷ (codes ",\"reply\":\"" ++ (reply ++ 34 ∷ (codes ",\"seat\":" ++ (decimal seat ++ codes "}")))))
fields-plain cmd reply seat c r =
    let last : List ℕ = codes ",\"seat\":" ++ (decimal seat ++ codes "}") in
    ap (λ xs. codes "{\"cmd\":" ++ xs) (quoted-then cmd (codes ",\"reply\":" ++ (quoted reply ++ last)) c)
    ∙ ap (λ xs. codes "{\"cmd\":\"" ++ (cmd ++ 34 ∷ (codes ",\"reply\":" ++ xs))) (quoted-then reply last r)
