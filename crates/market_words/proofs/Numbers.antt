-- A range of clap's from 1 to a number, and a word in it, read as a number.
use Rattle.std.proofs.Common.{◌≡◌, ◌∙◌, ◌<◌, ◌≤◌, ◌^◌, ℕ, Bool, true, false, cond, refl, ap, subst, arith, Result, Ok, Err, Some, ℤ, pos, int_lt, FitsSigned, of_z, to_z, to_z-of_z, w64}
use Rattle.std.specs.Int.{int_min}
use Rattle.std.specs.Str.Parse.{ParsesUnsigned, starts_with_minus}
use Rattle.std.proofs.lemmas.Int.{ints}
use Rattle.clap.specs.Values.{IsSignedIn, NarrowsTo, signed_between}
use Rattle.clap.specs.Walk.{Text}
use Rattle.clap.specs.declared.builder.value_parser.ValueParser.{ValueParser}
use Rattle.clap.specs.declared.builder.value_parser.ValueParser.TheVariants.{Signed}

-- a number of 32 bits is the lesser of it and the greatest of them
least_end : (high : ℕ) → high < 2 ^ 32 → int_min (pos 4294967295) (pos high) ≡ pos high
least_end high fits = go (int_lt (pos high) (pos 4294967295)) refl
  where
    go : (b : Bool) → int_lt (pos high) (pos 4294967295) ≡ b → cond b (pos high) (pos 4294967295) ≡ pos high
    go true below = refl
    go false above =
        let same : 4294967295 ≡ high = omega (arith, ints) in
        ap pos same

-- the numbers of 32 bits, narrowed to those from 1 to high
pub literal_narrows : (high : ℕ) (given parser : ValueParser) (first last : ℤ) → high < 2 ^ 32 → given ≡ Signed (pos 0) (pos 4294967295)
    → first ≡ pos 1 → last ≡ pos high → NarrowsTo given (Some first) (Some last) parser → parser ≡ Signed (pos 1) (pos high)
literal_narrows high given parser first last fits is starts ends narrowed =
    let all = subst (λ p. NarrowsTo p (Some first) (Some last) parser) is narrowed in
    let from_one = subst (λ z. NarrowsTo (Signed (pos 0) (pos 4294967295)) (Some z) (Some last) parser) starts all in
    let to_high = subst (λ z. NarrowsTo (Signed (pos 0) (pos 4294967295)) (Some (pos 1)) (Some z) parser) ends from_one in
    to_high ∙ ap (signed_between (pos 1)) (least_end high fits)

pub range_narrows : (high : ℕ) (given parser : ValueParser) (first last whole : ℤ) → high < 2 ^ 32 → given ≡ Signed (pos 0) (pos 4294967295)
    → first ≡ pos 1 → last ≡ to_z w64 (of_z w64 whole) → whole ≡ pos high → NarrowsTo given (Some first) (Some last) parser
    → parser ≡ Signed (pos 1) (pos high)
range_narrows high given parser first last whole fits is starts ends whole_is narrowed =
    let small : FitsSigned w64 (pos high) = record { sfits = omega arith } in
    let at_high = subst (λ z. last ≡ to_z w64 (of_z w64 z)) whole_is ends ∙ to_z-of_z small in
    literal_narrows high given parser first last fits is starts at_high narrowed

-- a word that spells a number from 1 to high parses as that number
pub range_parses : {E : Type 0} (high : ℕ) (word : Text) (r : Result ℕ E) → high < 2 ^ 32 → IsSignedIn (pos 1) (pos high) word → ParsesUnsigned 32 10 word r
    → (n : ℕ) × (r ≡ Ok n) × (1 ≤ n) × (n ≤ high)
range_parses {E} high word r fits within read = go (starts_with_minus word) refl r read
  where
    go : (b : Bool) → starts_with_minus word ≡ b → (x : Result ℕ E) → ParsesUnsigned 32 10 word x → (n : ℕ) × (x ≡ Ok n) × (1 ≤ n) × (n ≤ high)
    go true minus x h =
        let low_ok = rw minus at within.2 in
        absurd (omega (arith, ints))
    go false minus (Ok v) h =
        let low_ok = rw minus at within.2 in
        let high_ok = rw minus at within.3 in
        (v, refl, rw h.1 (omega (arith, ints)), rw h.1 (omega (arith, ints)))
    go false minus (Err e) h =
        let low_ok = rw minus at within.2 in
        let high_ok = rw minus at within.3 in
        let numeral = rw minus at within.0 in
        absurd (h (numeral, omega (arith, ints)))
