-- A level is read where it is spelled.
use Rattle.std.proofs.Common.{zero, suc, ◌≡◌, ℕ, ◌+◌, ◌≤◌, Bool, true, false, ◌&&◌, eqb, ltb, leb, cond, List, [], ◌∷◌, Option, Some, option_and_then, sym, ap, ◌∙◌, refl, subst, arith, decimal}
use Rattle.std.specs.Str.{bytes_eq}
use Rattle.std.specs.List.{All, Contains, slice_split}
use Rattle.std.proofs.lemmas.Bool.{lt-ltb, ltb-true, le-leb, leb-true, eqb-true, and_parts}
use Rattle.std.proofs.lemmas.Option.{cond_some, option_and_then_some, same_Some}
use Rattle.std.proofs.lemmas.List.Elements.{All-nil, All-cons, Contains-append_right}
use Rattle.std.proofs.lemmas.Fmt.{decimal_digit}
use Rattle.std.proofs.lemmas.Slice.Eq.{bytes_eq-Decides}
use Rattle.std.proofs.Math.Bool.{and-false}
use Rattle.market_texts.specs.Texts.{has_name, level_name}
use Rattle.market_types.specs.Commands.{FitsLevel}
use Rattle.market_texts.specs.Reading.{number, level, in_levels, is_space, level_spellings}
use Rattle.market_texts.proofs.Decimals.{number-decimal, number_only, split-decimal}

-- ---- what spells a level is read

pub in_levels-fits : (l : ℕ) → FitsLevel l → in_levels l ≡ Some l
in_levels-fits l h = rw (lt-ltb 0 l (omega arith), le-leb l 8 h.1) refl

-- one digit is no name
no_name : (a b c d : Bool) (y : Option ℕ) → cond (a && (b && false)) (Some 1) (cond (a && (c && false)) (Some 2) (cond (a && (d && false)) (Some 3) y)) ≡ y
no_name a b c d y = simp and-false

digit_level : (levels c : ℕ) → level levels (c ∷ []) ≡ option_and_then in_levels (number (c ∷ []))
unfolding level
digit_level levels c = no_name (eqb levels 3) (eqb c 104) (eqb c 110) (eqb c 108) (option_and_then in_levels (number (c ∷ [])))

level-decimal : (levels l : ℕ) → FitsLevel l → level levels (decimal l) ≡ Some l
level-decimal levels l h =
    let digit : decimal l ≡ (48 + l) ∷ [] = decimal_digit l (omega arith) in
    ap (level levels) digit
    ∙ digit_level levels (48 + l)
    ∙ ap (λ field. option_and_then in_levels (number field)) (sym digit)
    ∙ ap (option_and_then in_levels) (number-decimal l (omega arith))
    ∙ in_levels-fits l h

-- the field is whole, and reads as the level
abbrev pub ReadsLevel : ℕ → ℕ → List ℕ → Type 0
ReadsLevel levels l field = (slice_split is_space field ≡ field ∷ []) × (level levels field ≡ Some l)

reads_number : (levels l : ℕ) → FitsLevel l → ReadsLevel levels l (decimal l)
reads_number levels l h = (split-decimal l (omega arith), level-decimal levels l h)

reads_name : (l : ℕ) → 1 ≤ l → l ≤ 3 → ReadsLevel 3 l (level_name l)
unfolding level
reads_name zero h k = absurd (omega arith)
reads_name (suc zero) h k = (refl, refl)
reads_name (suc (suc zero)) h k = (refl, refl)
reads_name (suc (suc (suc zero))) h k = (refl, refl)
reads_name (suc (suc (suc (suc l)))) h k = absurd (omega arith)

reads_by : (levels l : ℕ) (b : Bool) → FitsLevel l → (b ≡ true → ReadsLevel levels l (level_name l)) → All (ReadsLevel levels l) (cond b (level_name l ∷ decimal l ∷ []) (decimal l ∷ []))
reads_by levels l true h k = All-cons (ReadsLevel levels l) (level_name l) (decimal l ∷ []) (k refl) (All-cons (ReadsLevel levels l) (decimal l) [] (reads_number levels l h) (All-nil (ReadsLevel levels l)))
reads_by levels l false h k = All-cons (ReadsLevel levels l) (decimal l) [] (reads_number levels l h) (All-nil (ReadsLevel levels l))

pub levels-read : (levels l : ℕ) → FitsLevel l → All (ReadsLevel levels l) (level_spellings levels l)
levels-read levels l h =
    reads_by levels l (has_name levels l) h (λ e.
    let both = and_parts (eqb levels 3) (leb l 3) e in
    subst (λ n. ReadsLevel n l (level_name l)) (sym (eqb-true levels 3 both.0)) (reads_name l h.0 (leb-true l 3 both.1)))

-- ---- what is read as a level spells it

pub contains_first : {A : Type 0} (x : A) (xs : List A) → Contains (x ∷ xs) x
contains_first x xs = (0, omega arith, refl)

abbrev pub SpellsLevel : ℕ → ℕ → List ℕ → Type 0
SpellsLevel levels l field = FitsLevel l × Contains (level_spellings levels l) field

number_spells : (levels l : ℕ) (b : Bool) → Contains (cond b (level_name l ∷ decimal l ∷ []) (decimal l ∷ [])) (decimal l)
number_spells levels l true = Contains-append_right (level_name l ∷ []) (decimal l ∷ []) (decimal l) (contains_first (decimal l) [])
number_spells levels l false = contains_first (decimal l) []

pub in_levels_only : (n l : ℕ) → in_levels n ≡ Some l → (n ≡ l) × FitsLevel n
in_levels_only n l h =
    let c = cond_some _ _ _ h in
    let both = and_parts (ltb 0 n) (leb n 8) c.0 in
    (c.1, (ltb-true 0 n both.0, leb-true n 8 both.1))

numbered : (levels l : ℕ) (field : List ℕ) → option_and_then in_levels (number field) ≡ Some l → SpellsLevel levels l field
numbered levels l field h =
    option_and_then_some in_levels (number field) l h (λ n e k.
    let m = in_levels_only n l k in
    let f = number_only field n e in
    subst (λ l. SpellsLevel levels l field) m.0 (m.1, subst (λ t. Contains (level_spellings levels n) t) (sym f.0) (number_spells levels n (has_name levels n))))

-- a test that chooses
pub chosen : {A P : Type 0} (b : Bool) (x y z : A) → cond b x y ≡ z → (b ≡ true → x ≡ z → P) → (b ≡ false → y ≡ z → P) → P
chosen true x y z h f g = f refl h
chosen false x y z h f g = g refl h

-- the bytes are those of the word
pub text_is : (field word : List ℕ) → bytes_eq field word ≡ true → field ≡ word
text_is field word e = (bytes_eq-Decides field word).0 e

-- the name of a level of three
named : (levels n l : ℕ) (field : List ℕ) → FitsLevel n → Contains (level_spellings 3 n) (level_name n) → (eqb levels 3 && bytes_eq field (level_name n)) ≡ true → Some n ≡ Some l → SpellsLevel levels l field
named levels n l field fits spelled test e =
    let both = and_parts (eqb levels 3) (bytes_eq field (level_name n)) test in
    subst (λ l. SpellsLevel levels l field) (same_Some n l e)
    (fits, subst (λ m. Contains (level_spellings m n) field) (sym (eqb-true levels 3 both.0)) (subst (λ t. Contains (level_spellings 3 n) t) (sym (text_is field (level_name n) both.1)) spelled))

pub level_only : (levels l : ℕ) (field : List ℕ) → level levels field ≡ Some l → SpellsLevel levels l field
unfolding level
level_only levels l field h =
    chosen (eqb levels 3 && bytes_eq field (level_name 1)) _ _ (Some l) h
    (λ test e. named levels 1 l field (omega arith, omega arith) (contains_first (level_name 1) (decimal 1 ∷ [])) test e)
    (λ _ h. chosen (eqb levels 3 && bytes_eq field (level_name 2)) _ _ (Some l) h
    (λ test e. named levels 2 l field (omega arith, omega arith) (contains_first (level_name 2) (decimal 2 ∷ [])) test e)
    (λ _ h. chosen (eqb levels 3 && bytes_eq field (level_name 3)) _ _ (Some l) h
    (λ test e. named levels 3 l field (omega arith, omega arith) (contains_first (level_name 3) (decimal 3 ∷ [])) test e)
    (λ _ h. numbered levels l field h)))
