-- A field, cut and read in one pass.
use Rattle.std.proofs.Common.{◌≡◌, ◌≢◌, ℕ, ◌^◌, Bool, true, false, cond, eqb, List, [], ◌∷◌, slice_index, Option, Some, None, option_and_then, sym, ap, ◌∙◌, refl, arith}
use Rattle.std.specs.Borrow.{Bor}
use Rattle.std.specs.Char.{is_ascii_digit}
use Rattle.std.specs.List.{slice_split, onto_first}
use Rattle.std.specs.Str.{all_ascii_digits}
use Rattle.std.proofs.lemmas.Bool.{ne_eqb}
use Rattle.std.proofs.lemmas.Bool.Decides.{nat_tests}
use Rattle.market_texts.specs.Fields.{behind_digits, fields_left, front_digits}
use Rattle.market_texts.specs.Reading.{is_space, number, negative, positive, signed}
use Rattle.market_texts.specs.Cuts.{IsCut, first_field, follows}
use Rattle.market_texts.proofs.Numbers.{no_digits}

-- ---- a text is its first field and the later ones

-- the fields after the first
abbrev pub later_fields : List ℕ → List (List ℕ)
later_fields [] = []
later_fields (b ∷ text) = cond (is_space b) (slice_split is_space text) (later_fields text)

split-onto : (b : ℕ) (space : Bool) (text : List ℕ) → slice_split is_space text ≡ first_field text ∷ later_fields text → cond space ([] ∷ slice_split is_space text) (onto_first b (slice_split is_space text)) ≡ cond space [] (b ∷ first_field text) ∷ cond space (slice_split is_space text) (later_fields text)
split-onto b true text h = refl
split-onto b false text h = rw h refl

pub text_fields : (text : List ℕ) → slice_split is_space text ≡ first_field text ∷ later_fields text
text_fields [] = refl
text_fields (b ∷ text) = split-onto b (is_space b) text (text_fields text)

-- ---- a field of digits

digit_no_space : (b : ℕ) → is_ascii_digit b ≡ true → is_space b ≡ false
digit_no_space b h = grind (arith, nat_tests)

-- a field ends here
at_end : (space : Bool) (b : ℕ) (text : List ℕ) (more : List (List ℕ)) → Some more ≡ cond space (Some (slice_split is_space text)) None → cond space ([] ∷ slice_split is_space text) (onto_first b (slice_split is_space text)) ≡ [] ∷ more
at_end true b text more h = cc
at_end false b text more h = absurd (cc)

ends-by : (digit : Bool) (b : ℕ) (text : List ℕ) (more : List (List ℕ)) → is_ascii_digit b ≡ digit → (Some more ≡ follows (behind_digits text) → slice_split is_space text ≡ front_digits text ∷ more)
    → Some more ≡ follows (cond digit (behind_digits text) (b ∷ text)) → slice_split is_space (b ∷ text) ≡ cond digit (b ∷ front_digits text) [] ∷ more
ends-by true b text more is rest h = rw (digit_no_space b is, rest h) refl
ends-by false b text more is rest h = at_end (is_space b) b text more h

-- the digits are the first field
ends : (text : List ℕ) (more : List (List ℕ)) → Some more ≡ follows (behind_digits text) → slice_split is_space text ≡ front_digits text ∷ more
ends [] more h = cc
ends (b ∷ text) more h = ends-by (is_ascii_digit b) b text more refl (ends text more) h

goes_on-at : (space : Bool) (b : ℕ) (text : List ℕ) → is_ascii_digit b ≡ false → None ≡ cond space (Some (slice_split is_space text)) None → all_ascii_digits (cond space [] (b ∷ first_field text)) ≡ false
goes_on-at true b text is h = absurd (cc)
goes_on-at false b text is h = rw is refl

goes_on-by : (digit : Bool) (b : ℕ) (text : List ℕ) → is_ascii_digit b ≡ digit → (None ≡ follows (behind_digits text) → all_ascii_digits (first_field text) ≡ false) → None ≡ follows (cond digit (behind_digits text) (b ∷ text)) → all_ascii_digits (first_field (b ∷ text)) ≡ false
goes_on-by true b text is rest h = rw (digit_no_space b is, is, rest h) refl
goes_on-by false b text is rest h = goes_on-at (is_space b) b text is h

-- the first field goes on behind them
goes_on : (text : List ℕ) → None ≡ follows (behind_digits text) → all_ascii_digits (first_field text) ≡ false
goes_on [] h = absurd (cc)
goes_on (b ∷ text) h = goes_on-by (is_ascii_digit b) b text refl (goes_on text) h

-- ---- the number that the first field is

pub cut_on : (text : List ℕ) → None ≡ follows (behind_digits text) → IsCut number text None
unfolding number
cut_on text h = (first_field text, later_fields text, text_fields text, sym (no_digits (2 ^ 32) (first_field text) (goes_on text h)))

none-by : (text : List ℕ) (left : Option (List (List ℕ))) → left ≡ follows (behind_digits text) → number (front_digits text) ≡ None → IsCut number text None
none-by text None h none = cut_on text h
none-by text (Some more) h none = (front_digits text, more, ends text more h, none)

pub cut_none : (text : List ℕ) → number (front_digits text) ≡ None → IsCut number text None
cut_none text none = none-by text (follows (behind_digits text)) refl none

pub cut_some : (text : List ℕ) (n : ℕ) (more : Option (Bor (List ℕ))) → number (front_digits text) ≡ Some n → Some (fields_left more) ≡ follows (behind_digits text) → IsCut number text (Some (n, more))
cut_some text n more reads h = (front_digits text, ends text (fields_left more) h, reads)

-- ---- the signed number that it is

pub minus_field : (text rest field : List ℕ) (more : List (List ℕ)) → text ≡ 45 ∷ rest → slice_split is_space rest ≡ field ∷ more → slice_split is_space text ≡ (45 ∷ field) ∷ more
minus_field text rest field more is split = rw (is, split) refl

first-by : (space : Bool) (b : ℕ) (rest field : List ℕ) (more : List (List ℕ)) → b ≢ 45 → first_field rest ∷ later_fields rest ≡ slice_split is_space rest
    → cond space ([] ∷ slice_split is_space rest) (onto_first b (slice_split is_space rest)) ≡ field ∷ more → eqb (slice_index field 0) 45 ≡ false
first-by true b rest [] more other parts split = refl
first-by true b rest (x ∷ field) more other parts split = absurd (cc)
first-by false b rest [] more other parts split = refl
first-by false b rest (x ∷ field) more other parts split =
    let is : (b ∷ first_field rest) ∷ later_fields rest ≡ (x ∷ field) ∷ more = ap (onto_first b) parts ∙ split in
    let same : b ≡ x = cc in
    ne_eqb x 45 (λ e. other (same ∙ e))

first_other : (text field : List ℕ) (more : List (List ℕ)) → ((rest : List ℕ) → text ≢ 45 ∷ rest) → slice_split is_space text ≡ field ∷ more → eqb (slice_index field 0) 45 ≡ false
first_other [] [] more other split = refl
first_other [] (x ∷ field) more other split = absurd (cc)
first_other (b ∷ rest) field more other split = first-by (is_space b) b rest field more (λ e. other rest (ap (λ x. x ∷ rest) e)) (sym (text_fields rest)) split

pub no_minus : (text field : List ℕ) (more : List (List ℕ)) → ((rest : List ℕ) → text ≢ 45 ∷ rest) → slice_split is_space text ≡ field ∷ more → signed field ≡ option_and_then positive (number field)
unfolding signed
no_minus text field more other split = rw (first_other text field more other split) refl

pub minus : (field : List ℕ) → signed (45 ∷ field) ≡ option_and_then negative (number field)
unfolding signed
minus field = refl
