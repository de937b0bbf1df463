-- A text that begins with a word.
use Rattle.std.proofs.Common.{◌≡◌, ◌≢◌, ◌<◌, ℕ, Bool, true, false, cond, List, [], ◌∷◌, ◌++◌, append-nil, length, length-append, Option, Some, None, option_map, refl, sym, ap, ◌∙◌, arith}
use Rattle.std.specs.Borrow.{Bor}
use Rattle.std.specs.List.{list_any, slice_split}
use Rattle.std.specs.Prelude.{IfNone, IfSome}
use Rattle.std.specs.Str.{bytes_eq}
use Rattle.std.proofs.lemmas.Bool.{or_parts}
use Rattle.std.proofs.lemmas.Slice.Eq.{bytes_eq-Decides}
use Rattle.market_texts.specs.Fields.{fields_left}
use Rattle.market_texts.specs.Reading.{is_space}
use Rattle.market_texts.specs.Cuts.{first_field, follows}
use Rattle.market_texts.proofs.Cuts.{later_fields, text_fields}

-- ---- what the first field is behind a word

begun : (word rest : List ℕ) → list_any is_space word ≡ false → (first_field (word ++ rest) ≡ word ++ first_field rest) × (later_fields (word ++ rest) ≡ later_fields rest)
begun [] rest free = (refl, refl)
begun (w ∷ word) rest free =
    let p = or_parts (is_space w) (list_any is_space word) free in
    let m = begun word rest p.1 in
    (rw p.0 (ap (λ xs. w ∷ xs) m.0), rw p.0 m.1)

ended-at : (space : Bool) (b : ℕ) (rest : List ℕ) (more : List (List ℕ)) → Some more ≡ cond space (Some (slice_split is_space rest)) None → (cond space [] (b ∷ first_field rest) ≡ []) × (cond space (slice_split is_space rest) (later_fields rest) ≡ more)
ended-at true b rest more h = (refl, cc)
ended-at false b rest more h = absurd (cc)

-- it ends here
ended : (rest : List ℕ) (more : List (List ℕ)) → Some more ≡ follows rest → (first_field rest ≡ []) × (later_fields rest ≡ more)
ended [] more h = (refl, cc)
ended (b ∷ rest) more h = ended-at (is_space b) b rest more h

goes_on-at : (space : Bool) (b : ℕ) (rest : List ℕ) → None ≡ cond space (Some (slice_split is_space rest)) None → 0 < length (cond space [] (b ∷ first_field rest))
goes_on-at true b rest h = absurd (cc)
goes_on-at false b rest h = omega arith

-- it goes on
goes_on : (rest : List ℕ) → None ≡ follows rest → 0 < length (first_field rest)
goes_on [] h = absurd (cc)
goes_on (b ∷ rest) h = goes_on-at (is_space b) b rest h

rest-of-by : (space : Bool) (b : ℕ) (text rest : List ℕ) → text ≡ first_field text ++ rest → (left : List ℕ) × (b ∷ text ≡ cond space [] (b ∷ first_field text) ++ left)
rest-of-by true b text rest h = (b ∷ text, refl)
rest-of-by false b text rest h = (rest, ap (λ xs. b ∷ xs) h)

rest-of : (text : List ℕ) → (left : List ℕ) × (text ≡ first_field text ++ left)
rest-of [] = ([], refl)
rest-of (b ∷ text) = let r = rest-of text in rest-of-by (is_space b) b text r.0 r.1

-- ---- what is answered

unless : (r : Bool) (A : Type 0) → (r ≡ true → A) → (A → ⊥) → r ≡ false
unless true A is never = absurd (never (is refl))
unless false A is never = refl

-- the text does not begin with the word
pub other_word : (word text : List ℕ) → ((rest : List ℕ) → text ≢ word ++ rest) → bytes_eq (first_field text) word ≡ false
other_word word text never =
    unless (bytes_eq (first_field text) word) (first_field text ≡ word) (bytes_eq-Decides (first_field text) word).0
    (λ e. let r = rest-of text in never r.0 (r.1 ∙ ap (λ xs. xs ++ r.0) e))

not_word : (word rest : List ℕ) → list_any is_space word ≡ false → None ≡ follows rest → bytes_eq (first_field (word ++ rest)) word ≡ false
not_word word rest free h =
    unless (bytes_eq (first_field (word ++ rest)) word) (first_field (word ++ rest) ≡ word) (bytes_eq-Decides (first_field (word ++ rest)) word).0
    (λ e. absurd (omega (arith, ap length (sym (begun word rest free).0 ∙ e), length-append word (first_field rest), goes_on rest h)))

is_word : (word rest : List ℕ) (more : List (List ℕ)) → list_any is_space word ≡ false → Some more ≡ follows rest → slice_split is_space (word ++ rest) ≡ word ∷ more
is_word word rest more free h =
    let b = begun word rest free in
    let e = ended rest more h in
    let first : first_field (word ++ rest) ≡ word = b.0 ∙ ap (λ xs. word ++ xs) e.0 ∙ append-nil word in
    let later : later_fields (word ++ rest) ≡ more = b.1 ∙ e.1 in
    text_fields (word ++ rest) ∙ rw (first, later) refl

abbrev Follows : List ℕ → Option (Option (Bor (List ℕ))) → Type 0
Follows rest more = option_map (λ left. fields_left left) more ≡ follows rest

pub follows-none : (word text rest : List ℕ) (more : Option (Option (Bor (List ℕ)))) → text ≡ word ++ rest → list_any is_space word ≡ false → Follows rest more → IfNone more (bytes_eq (first_field text) word ≡ false)
follows-none word text rest None is free h = ap (λ t. bytes_eq (first_field t) word) is ∙ not_word word rest free h
follows-none word text rest (Some left) is free h = tt

pub follows-some : (word text rest : List ℕ) (more : Option (Option (Bor (List ℕ)))) → text ≡ word ++ rest → list_any is_space word ≡ false → Follows rest more → IfSome more (λ left. slice_split is_space text ≡ word ∷ fields_left left)
follows-some word text rest None is free h = tt
follows-some word text rest (Some left) is free h = ap (slice_split is_space) is ∙ is_word word rest (fields_left left) free h
